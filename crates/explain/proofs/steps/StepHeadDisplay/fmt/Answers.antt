use Rattle.std.proofs.Common.{rules}
use Rattle.explain.specs.Told.{step_head}
use Rattle.explain.proofs.steps.StepHeadDisplay.fmt.Goals as goal

pub returns-clause-writes : goal.returns-clause-writes
unfolding step_head
returns-clause-writes g c = search rules
