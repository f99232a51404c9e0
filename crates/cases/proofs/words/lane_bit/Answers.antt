use Rattle.std.proofs.Common.{refl}
use Rattle.model.specs.Planes.{lane_bit}
use Rattle.cases.proofs.words.lane_bit.Goals as goal

pub returns : goal.returns
unfolding lane_bit
returns c = refl
