use Rattle.cases.proofs.Lanes.{value-lanes, consistent-lanes}
use Rattle.cases.proofs.Blocks.{level-lanes}
use Rattle.cases.proofs.block.value_of_level.Goals as goal

pub invariant_of-result : goal.invariant_of-result
invariant_of-result c = record { consistent = consistent-lanes (level-lanes c.args.level c.requires) }

pub returns : goal.returns
returns c = value-lanes (level-lanes c.args.level c.requires)
