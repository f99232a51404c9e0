use Rattle.std.proofs.Common.{sym, ◌∙◌}
use Rattle.runs.proofs.Running.{zero_bit}
use Rattle.runs.proofs.lanes.Looks.kind.Goals as goal

pub returns-then-lane_bit-eq1-2 : goal.returns-then-lane_bit-eq1-2
returns-then-lane_bit-eq1-2 c =
    let z = zero_bit _ _ (λ e. c.if-lane_bit-eq1.false (c.lane_bit.ensures ∙ e)) in
    let o = sym c.lane_bit-else-lane_bit-eq1.ensures ∙ c.if-lane_bit-eq1-2.true in
    rw (z, o)

pub returns-else-lane_bit-eq1-2 : goal.returns-else-lane_bit-eq1-2
returns-else-lane_bit-eq1-2 c =
    let z = zero_bit _ _ (λ e. c.if-lane_bit-eq1.false (c.lane_bit.ensures ∙ e)) in
    let o = zero_bit _ _ (λ e. c.if-lane_bit-eq1-2.false (c.lane_bit-else-lane_bit-eq1.ensures ∙ e)) in
    rw (z, o)
