use Rattle.model.proofs.Laws.Planes.{bit-small}
use Rattle.cases.proofs.Lanes.{yes-bit}
use Rattle.cases.proofs.value.Value.is_yes.Goals as goal

pub returns : goal.returns
returns c =
    let v = c.args.self in
    rw c.lane_bit.ensures (yes-bit _ _ (v.consistent c.args.lane c.requires) (bit-small c.args.lane v.some))
