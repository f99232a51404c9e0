use Rattle.blocks.specs.Values.{task}
use Rattle.blocks.proofs.Tasks.{task-initial}
use Rattle.runs.proofs.Running.{looks-at}
use Rattle.runs.proofs.lanes.look.Goals as goal

pub returns-clause-looks : goal.returns-clause-looks
returns-clause-looks c = λ same. rw c.of-2.ensures (looks-at (task c.args.task.now) _ _ (rw task-initial c.start_lanes-starts.ensures) _ c.run_lanes.ensures.reaches)
