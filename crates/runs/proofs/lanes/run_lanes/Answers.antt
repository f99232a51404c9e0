use Rattle.std.proofs.Common.{sym, ◌∙◌, ◌<◌, length, arith}
use Rattle.blocks.specs.Values.{task}
use Rattle.blocks.proofs.Tasks.{task-facts, task-goal, plan-length}
use Rattle.runs.proofs.Running.{running-begins, running-next, running-stops, running-ends}
use Rattle.runs.proofs.lanes.run_lanes.Goals as goal

pub loop-i-init : goal.loop-i-init
loop-i-init c = (c.requires ∙ sym (task-facts c.args.task.now), running-begins _ _ _)

pub returns-in_default-clause-reaches : goal.returns-in_default-clause-reaches
returns-in_default-clause-reaches c =
    let t = c.args.task.now in
    let l : c.loop-i.i < length (task t).plan = omega (arith, c.loop-i-test.true, plan-length t) in
    running-stops (task t) _ _ c.loop-i.i _ _ c.loop-i.invariant.1 l c.loop-i.invariant.0 _ c.action.ensures.is _ _
    (c.in_default.ensures.obeys (omega (arith, c.action.ensures.facts, task-facts t, c.loop-i.invariant.0)))

pub loop-i-preserved : goal.loop-i-preserved
loop-i-preserved c =
    let t = c.args.task.now in
    let l : c.loop-i.i < length (task t).plan = omega (arith, c.loop-i-test.true, plan-length t) in (
      c.obey.ensures.facts ∙ c.loop-i.invariant.0,
      running-next (task t) _ _ c.loop-i.i _ _ c.loop-i.invariant.1 l c.loop-i.invariant.0 _ c.action.ensures.is _ _
          (c.in-Ok.ensures.obeys (omega (arith, c.action.ensures.facts, task-facts t, c.loop-i.invariant.0))),
    )

pub returns-clause-reaches : goal.returns-clause-reaches
returns-clause-reaches c =
    let t = c.args.task.now in
    running-ends (task t) _ _ c.loop-i.i _ _ c.loop-i.invariant.1 (omega (arith, c.loop-i-test.false, plan-length t)) _ (rw task-goal c.reached_lanes.ensures)

-- a run changes no number of facts
pub returns-in_default-clause-facts : goal.returns-in_default-clause-facts
returns-in_default-clause-facts c = c.obey.ensures.facts ∙ c.loop-i.invariant.0 ∙ task-facts c.args.task.now ∙ sym c.requires

pub returns-clause-facts : goal.returns-clause-facts
returns-clause-facts c = c.loop-i.invariant.0 ∙ task-facts c.args.task.now ∙ sym c.requires
