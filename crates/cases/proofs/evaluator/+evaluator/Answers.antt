use Rattle.std.proofs.Common.{arith, refl, sym, ◌∙◌, ◌≡◌, ◌+◌, suc}
use Rattle.model.proofs.Laws.Truth.{and-true}
use Rattle.formula.specs.Views.{formulas}
use Rattle.formula.proofs.Sizes.{members-fewer}
use Rattle.cases.specs.Cases.{case_of}
use Rattle.cases.proofs.Evaluating.{decided-first, eval-none, joined-more, after-more, after-some, fewer-after, literal-first}
use Rattle.cases.proofs.evaluator.+evaluator.Goals as goal

pub join_first-loop-init : goal.join_first-loop-init
join_first-loop-init t c = (λ j l. c.unit-value.ensures j l ∙ sym (eval-none (case_of c.args.cases.now j) _), refl)

pub join_first-evaluate_first-requires : goal.join_first-evaluate_first-requires
join_first-evaluate_first-requires t c =
    let all = formulas c.args.formulas.now in
    let left = c.loop.invariant.1 in (
      rw left (omega (arith, fewer-after c.loop.counter all)),
      rw left (after-some c.loop.counter all (omega (arith, c.loop-test.true, c.requires))),
    )

pub join_first-returns-then-whole-is_decided-clause-value : goal.join_first-returns-then-whole-is_decided-clause-value
join_first-returns-then-whole-is_decided-clause-value t c =
    let (wanted, decided) = and-true _ _ c.if-whole-is_decided.true in
    let is = c.is_decided.ensures decided in
    let value = c.loop.invariant.0 in
    λ j l.
    is j l ∙
    sym
    (decided-first (case_of c.args.cases.now j) _ c.loop.counter c.args.count (formulas c.args.formulas.now) (omega (arith, c.loop-test.true))
    (sym (value j l) ∙ is j l))

pub join_first-loop-preserved : goal.join_first-loop-preserved
join_first-loop-preserved t c =
    let i = c.loop.counter in
    let all = formulas c.args.formulas.now in
    let (value, left) = c.loop.invariant in
    let next = c.evaluate_first.ensures in
    let s : i + 1 ≡ suc i = omega arith in (
      λ j l.
          c.join-value.ensures j l ∙ rw (s, value j l, next.value j l, left)
          (sym (joined-more (case_of c.args.cases.now j) _ i all (omega (arith, c.loop-test.true, c.requires)))),
      next.rest ∙ rw (s, left) (sym (after-more i all)),
    )

pub evaluate_first-all-value-requires : goal.evaluate_first-all-value-requires
evaluate_first-all-value-requires t c = (omega (arith, members-fewer _ _ _ _ c.in-Group.ensures), c.in-Group.members.few)

pub evaluate_first-any-value-requires : goal.evaluate_first-any-value-requires
evaluate_first-any-value-requires t c = (omega (arith, members-fewer _ _ _ _ c.in-Group.ensures), c.in-Group.members.few)

pub evaluate_first-returns-in-Literal-clause-value : goal.evaluate_first-returns-in-Literal-clause-value
evaluate_first-returns-in-Literal-clause-value t c = literal-first (case_of c.args.cases.now) _ c.in-Literal.ensures c.value.ensures
