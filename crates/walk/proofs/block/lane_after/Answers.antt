use Rattle.walk.proofs.Lanes.{after-lane}
use Rattle.walk.proofs.block.lane_after.Goals as goal

pub returns : goal.returns
returns c = after-lane _ c.requires
