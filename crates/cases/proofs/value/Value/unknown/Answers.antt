use Rattle.cases.proofs.Lanes.{consistent-lanes, unknown-lanes, value-lanes}
use Rattle.cases.proofs.value.Value.unknown.Goals as goal

pub invariant_of-result : goal.invariant_of-result
invariant_of-result c = record { consistent = consistent-lanes unknown-lanes }

pub returns : goal.returns
returns c = value-lanes unknown-lanes
