use Rattle.runs.proofs.Running.{some-lanes}
use Rattle.runs.proofs.lanes.start_lanes.Goals as goal

pub returns : goal.returns
returns c = some-lanes _ _ c.evaluate.result c.evaluate.ensures
