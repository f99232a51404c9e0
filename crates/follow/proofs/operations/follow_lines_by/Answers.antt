use Rattle.std.proofs.Common.{ap, refl, sym, ◌∙◌}
use Rattle.std.proofs.lemmas.Result.{err_from_is_err_and}
use Rattle.model.specs.declared.Limits.{Limits}
use Rattle.blocks.specs.Values.{task}
use Rattle.follow.proofs.Following.{from-line, stands, here-line, all-lines, line-refused, line-passed, no-line}
use Rattle.follow.proofs.operations.follow_lines_by.Goals as goal

pub loop-reader-init : goal.loop-reader-init
loop-reader-init c =
    let T = task c.args.task.now in (
      c.new-follower.ensures.task,
      (λ j. (c.new-reader.ensures.list j).now),
      c.new-reader.ensures.limits,
      all-lines c.args.limits T c.args.list.now c.args.count ∙
          (λ j. from-line c.args.limits T c.args.list.now c.args.count (sym c.new-reader.ensures.line j) (sym c.new-follower.ensures.covered j)),
    )

pub follow-requires-clause-sensible : goal.follow-requires-clause-sensible
follow-requires-clause-sensible c = rw c.cursor.ensures c.loop-reader.reader.sensible

pub follow-requires-clause-few : goal.follow-requires-clause-few
follow-requires-clause-few c = rw (c.cursor.ensures, c.loop-reader.invariant.0, c.loop-reader.invariant.2, c.requires.limits) c.args.task.now.problem.now.few_facts

pub follow-requires-clause-stands : goal.follow-requires-clause-stands
follow-requires-clause-stands c =
    rw c.cursor.ensures
    (stands c.loop-reader.reader _ _ c.args.count c.loop-reader.invariant.1 c.loop-reader.invariant.2 c.requires.inside c.loop-reader-test.true)

pub next_line-reader-requires : goal.next_line-reader-requires
next_line-reader-requires c =
    stands c.loop-reader.reader _ _ c.args.count c.loop-reader.invariant.1 c.loop-reader.invariant.2 c.requires.inside c.loop-reader-test.true

pub returns-in_err-follow : goal.returns-in_err-follow
returns-in_err-follow c =
    let p = err_from_is_err_and c.from_residual.result c.from_residual.ensures.1 in
    let here = here-line _ c.args.task.now c.loop-reader.reader c.args.limits c.args.list.now _ c.loop-reader.follower.covered c.loop-reader.invariant.0 c.loop-reader.invariant.1 refl c.loop-reader.invariant.2 in
    let width = ap (λ (F : Limits). F.width) (c.loop-reader.invariant.2 ∙ c.requires.limits ∙ ap (λ t. t.problem.now.limits) (sym c.loop-reader.invariant.0)) in
    rw (p.1, p.2)
    (line-refused c.args.limits (task c.args.task.now) c.args.list.now c.args.count _ _ c.loop-reader-test.true _ _ ((rw c.cursor.ensures at c.in_err-follow.ensures.line) width ∙ here) ∙
    sym c.loop-reader.invariant.3)

pub loop-reader-preserved : goal.loop-reader-preserved
loop-reader-preserved c =
    let here = here-line _ c.args.task.now c.loop-reader.reader c.args.limits c.args.list.now _ c.loop-reader.follower.covered c.loop-reader.invariant.0 c.loop-reader.invariant.1 refl c.loop-reader.invariant.2 in
    let width = ap (λ (F : Limits). F.width) (c.loop-reader.invariant.2 ∙ c.requires.limits ∙ ap (λ t. t.problem.now.limits) (sym c.loop-reader.invariant.0)) in (
      c.in_ok-follow.ensures.task ∙ c.loop-reader.invariant.0,
      (λ j. (c.next_line-reader.ensures.list j).now) ∙ c.loop-reader.invariant.1,
      c.next_line-reader.ensures.limits ∙ c.loop-reader.invariant.2,
      c.loop-reader.invariant.3 ∙
          line-passed c.args.limits (task c.args.task.now) c.args.list.now c.args.count _ _ c.loop-reader-test.true _ ((rw c.cursor.ensures at c.in_ok-follow.ensures.line) width ∙ here) ∙
          (λ j. from-line c.args.limits (task c.args.task.now) c.args.list.now c.args.count (sym c.next_line-reader.ensures.line j) c.follow.new.self.covered),
    )

pub returns : goal.returns
returns c = sym (c.loop-reader.invariant.3 ∙ no-line _ _ _ _ _ _ c.loop-reader-test.false)
