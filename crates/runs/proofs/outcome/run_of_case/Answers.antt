use Rattle.std.proofs.Common.{◌≡◌, true, false, sym, ap, ◌∙◌, ◌<◌, length, arith}
use Rattle.model.specs.Kleene.{is_yes, three}
use Rattle.model.specs.Run.{holds_in}
use Rattle.cases.specs.Cases.{case_of}
use Rattle.blocks.specs.Values.{task}
use Rattle.blocks.proofs.Tasks.{task-facts, task-goal, plan-length}
use Rattle.runs.proofs.Running.{following-begins, following-next, following-stops, following-ends}
use Rattle.runs.proofs.outcome.run_of_case.Goals as goal

pub loop-i-init : goal.loop-i-init
loop-i-init c = (c.requires ∙ sym (task-facts c.args.task.now), following-begins _ _)

pub returns-in-Err : goal.returns-in-Err
returns-in-Err c =
    let t = c.args.task.now in
    let l : c.loop-i.i < length (task t).plan = omega (arith, c.loop-i-test.true, plan-length t) in
    following-stops (task t) _ c.loop-i.i _ c.loop-i.invariant.1 l c.loop-i.invariant.0 _ c.action-action.ensures.is _ _
    (c.in-Err.ensures.obeys (omega (arith, c.action-action.ensures.facts, task-facts t, c.loop-i.invariant.0))) _
    c.hindering_part-part.ensures

pub loop-i-preserved : goal.loop-i-preserved
loop-i-preserved c =
    let t = c.args.task.now in
    let l : c.loop-i.i < length (task t).plan = omega (arith, c.loop-i-test.true, plan-length t) in (
      c.obey.ensures.facts ∙ c.loop-i.invariant.0,
      following-next (task t) _ c.loop-i.i _ c.loop-i.invariant.1 l c.loop-i.invariant.0 _ c.action-action.ensures.is _ _
          (c.in_default.ensures.obeys (omega (arith, c.action-action.ensures.facts, task-facts t, c.loop-i.invariant.0))),
    )

pub returns-then-is_yes : goal.returns-then-is_yes
returns-then-is_yes c =
    let t = c.args.task.now in
    let zero : 0 < 64 = omega arith in
    let e : true ≡ holds_in three (case_of c.loop-i.current 0) (task t).goal =
    rw task-goal (sym c.if-is_yes.true ∙ c.is_yes.ensures ∙ ap is_yes (c.evaluate.ensures 0 zero))
    in
    following-ends (task t) _ c.loop-i.i c.loop-i.current c.loop-i.invariant.1 (omega (arith, c.loop-i-test.false, plan-length t)) _ e

pub returns-else-is_yes : goal.returns-else-is_yes
returns-else-is_yes c =
    let t = c.args.task.now in
    let zero : 0 < 64 = omega arith in
    let e : false ≡ holds_in three (case_of c.loop-i.current 0) (task t).goal =
    rw task-goal (sym c.if-is_yes.false ∙ c.is_yes.ensures ∙ ap is_yes (c.evaluate.ensures 0 zero))
    in
    following-ends (task t) _ c.loop-i.i c.loop-i.current c.loop-i.invariant.1 (omega (arith, c.loop-i-test.false, plan-length t)) _ e
