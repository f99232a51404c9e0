use Rattle.backward.proofs.Words.{refl, sym, ap, ◌∙◌, ◌||◌, ℕ, eqb, fact_of, literal, literals_left, has_fact}
use Rattle.backward.proofs.{Sets.set-none, Sets.grown, Sets.grown-none, Naming.named_by, Naming.literal-names, Naming.formula-names, Naming.named-first, Naming.none-named-by}
use Rattle.backward.proofs.named.named_facts.Goals as goal

pub returns-in-Literal : goal.returns-in-Literal
returns-in-Literal c =
    λ f l. c.of.ensures f l ∙ ap (λ (x : ℕ). eqb x f) c.fact.ensures.is ∙ sym (literal-names _ c.alone.ensures c.in-Literal.ensures f)

pub loop-literal-init : goal.loop-literal-init
loop-literal-init c =
    λ f l.
    let φ = c.args.formula in
    formula-names φ.formulas.bytes.now φ.formulas.sound φ.one f ∙
    rw (set-none f, c.into_iter-literal-iterator.ensures.into_iter_gives, c.literals-literal-items.ensures) refl

pub loop-literal-preserved : goal.loop-literal-preserved
loop-literal-preserved c =
    λ f l.
    grown (has_fact c.loop-literal.facts f) (eqb (fact_of (literal c.in-Some.literal)) f) (named_by (literals_left c.next-in-loop-literal.new.self) f)
    (c.loop-literal.invariant f l) (named-first _ _ _ c.in-Some.ensures.steps f)
    (c.bitor-facts.ensures f l ∙ ap (λ b. has_fact c.loop-literal.facts f || b) (c.of-in-loop-literal.ensures f l ∙ ap (λ (x : ℕ). eqb x f) c.fact-in-loop-literal.ensures.is))

pub returns : goal.returns
returns c = λ f l. grown-none (has_fact c.loop-literal.facts f) (c.loop-literal.invariant f l) (none-named-by _ c.in-None.ensures.steps.0 f)
