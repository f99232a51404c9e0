use Rattle.cases.proofs.Lanes.{both-lanes, consistent-lanes, value-lanes}
use Rattle.cases.proofs.value.ValueBitAnd.bitand.Goals as goal

pub invariant_of-result : goal.invariant_of-result
invariant_of-result c = record { consistent = consistent-lanes (both-lanes _ _ c.args.self.consistent _ _ c.args.other.consistent) }

pub returns : goal.returns
returns c = value-lanes (both-lanes _ _ c.args.self.consistent _ _ c.args.other.consistent)
