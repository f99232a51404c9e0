use Rattle.std.proofs.Common.{arith}
use Rattle.blocks.specs.Values.{task}
use Rattle.blocks.proofs.Tasks.{task-initial, task-goal, plan-length}
use Rattle.runs.proofs.Running.{looks-at, looks-same, running-begins, running-ends}
use Rattle.follow.proofs.follower.Follower.look.Goals as goal

pub returns-then-task-eq0-clause-looks : goal.returns-then-task-eq0-clause-looks
returns-then-task-eq0-clause-looks c =
    let t = c.args.self.now.task.now in
    let T = task t in
    rw c.of.ensures
    (looks-at T _ _ (rw task-initial c.start_lanes-starts.ensures) _
    (running-ends T _ _ 0 _ _ (running-begins T _ _) (omega (arith, plan-length t, c.if-task-eq0.true)) _ (rw task-goal c.reached_lanes.ensures)))

pub returns-clause-looks : goal.returns-clause-looks
returns-clause-looks c =
    let s = c.args.self.now in
    looks-same (task s.task.now) _ _ _ (λ j l. c.copy_from.ensures.cases j l) (c.look.ensures.looks (omega (arith, c.copy_from.ensures.facts, s.same, s.facts)))
