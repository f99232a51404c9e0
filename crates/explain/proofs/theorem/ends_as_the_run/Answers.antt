use Rattle.explain.proofs.Ending.{ends-as-the-run}
use Rattle.explain.proofs.theorem.ends_as_the_run.Goals as goal

pub returns : goal.returns
returns c = ends-as-the-run
