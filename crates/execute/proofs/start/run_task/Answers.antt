use Rattle.blocks.specs.Values.{task}
use Rattle.execute.proofs.Starting.{answers-run}
use Rattle.execute.proofs.start.run_task.Goals as goal

pub returns : goal.returns
returns c = answers-run (task c.args.task.now) _ _ c.in_ok-cases.ensures.state _ c.run_of_case.ensures
