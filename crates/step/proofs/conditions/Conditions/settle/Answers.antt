use Rattle.std.proofs.Common.{◌-◌, ◌∙◌, ap, arith}
use Rattle.model.specs.Kleene.{either}
use Rattle.cases.specs.{Cases.value_at}
use Rattle.formula.proofs.Leaves.{literal-byte}
use Rattle.step.proofs.{Entries.literal-wider, Turns.settling-begins, Turns.settling-next, Turns.settling-ends}
use Rattle.step.proofs.conditions.Conditions.settle.Goals as goal

pub loop-e-init : goal.loop-e-init
loop-e-init c = settling-begins _ _

pub of-literal-requires : goal.of-literal-requires
of-literal-requires c =
    let s = c.args.self.now in
    literal-byte s.facts s.few_facts _ (s.declared (c.loop-e.e - 1) (omega arith))

pub loop-e-preserved : goal.loop-e-preserved
loop-e-preserved c =
    let s = c.args.self.now in
    let e = c.loop-e.e - 1 in
    settling-next _ _ _ _ c.loop-e.invariant c.loop-e-test.true c.value.result c.bitor-value.result (rw c.of-literal.ensures at c.value.ensures)
    (λ j l. c.bitor-value.ensures j l ∙ ap (λ t. either t (value_at c.value.result j)) (c.condition.ensures j l))
    _ c.put_declared.ensures.facts (rw c.of-literal.ensures at c.put_declared.ensures.cases)

pub put_declared-requires : goal.put_declared-requires
put_declared-requires c =
    let s = c.args.self.now in
    rw (c.of-literal.ensures, c.loop-e.invariant.facts)
    (literal-wider s.facts c.args.cases.now.facts _ (omega arith) (s.declared (c.loop-e.e - 1) (omega arith)))

pub returns-then-cases-self-clause-steps : goal.returns-then-cases-self-clause-steps
returns-then-cases-self-clause-steps c = λ few. absurd (omega arith)

pub returns-clause-steps : goal.returns-clause-steps
returns-clause-steps c = settling-ends _ _ _ _ c.loop-e.invariant c.loop-e-test.false
