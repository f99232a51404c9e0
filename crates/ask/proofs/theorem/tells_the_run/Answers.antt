use Rattle.ask.proofs.TellsRun.{tells-the-run}
use Rattle.ask.proofs.theorem.tells_the_run.Goals as goal

pub returns : goal.returns
returns c = tells-the-run
