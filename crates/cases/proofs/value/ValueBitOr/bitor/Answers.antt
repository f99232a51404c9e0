use Rattle.cases.proofs.Lanes.{consistent-lanes, either-lanes, value-lanes}
use Rattle.cases.proofs.value.ValueBitOr.bitor.Goals as goal

pub invariant_of-result : goal.invariant_of-result
invariant_of-result c = record { consistent = consistent-lanes (either-lanes _ _ c.args.self.consistent _ _ c.args.other.consistent) }

pub returns : goal.returns
returns c = value-lanes (either-lanes _ _ c.args.self.consistent _ _ c.args.other.consistent)
