use Rattle.cases.proofs.Lanes.{consistent-lanes, denied-lanes, value-lanes}
use Rattle.cases.proofs.value.ValueNot.not.Goals as goal

pub invariant_of-result : goal.invariant_of-result
invariant_of-result c = record { consistent = consistent-lanes (denied-lanes _ _ c.args.self.consistent) }

pub returns : goal.returns
returns c = value-lanes (denied-lanes _ _ c.args.self.consistent)
