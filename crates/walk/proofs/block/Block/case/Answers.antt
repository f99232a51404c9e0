use Rattle.std.proofs.Common.{refl, ℕ, ◌*◌, ◌^◌, ◌≤◌, ◌<◌, arith, pow-suc}
use Rattle.walk.specs.Lanes.{OnLevel}
use Rattle.walk.proofs.Lanes.{level-within}
use Rattle.walk.proofs.Walking.{computed-ge, sum-fits, product-fits, case-is}
use Rattle.walk.proofs.block.Block.case.Goals as goal

on-level : (lane l : ℕ) → 2 ^ l ≤ lane → lane < 2 * 2 ^ l → OnLevel lane l
on-level lane l h k = record { from = h; to = omega (arith, pow-suc 2 l) }

pub overflow_sub-below : goal.overflow_sub-below
overflow_sub-below c = level-within _ _ _ (on-level _ _ c.ilog2-level.ensures.power_le c.ilog2-level.ensures.next_power_gt) c.requires.inside

pub overflow_sub-below-2 : goal.overflow_sub-below-2
overflow_sub-below-2 c =
    let o = on-level _ _ c.ilog2-level.ensures.power_le c.ilog2-level.ensures.next_power_gt in
    computed-ge c.args.self.now c.args.lane c.ilog2-level.result _ o c.requires.inside refl

pub overflow_mul-result : goal.overflow_mul-result
overflow_mul-result c =
    let o = on-level _ _ c.ilog2-level.ensures.power_le c.ilog2-level.ensures.next_power_gt in
    omega (arith, product-fits c.args.self.now c.args.lane c.ilog2-level.result c.span.result o c.requires.inside c.span.ensures)

pub overflow_add-result-2 : goal.overflow_add-result-2
overflow_add-result-2 c =
    let o = on-level _ _ c.ilog2-level.ensures.power_le c.ilog2-level.ensures.next_power_gt in
    omega (arith, sum-fits c.args.self.now c.args.lane c.ilog2-level.result c.span.result o c.requires.inside c.span.ensures)

pub returns : goal.returns
returns c =
    λ e p.
    let o = on-level _ _ c.ilog2-level.ensures.power_le c.ilog2-level.ensures.next_power_gt in
    case-is c.args.self.now c.args.lane c.ilog2-level.result c.span.result o c.requires.inside c.span.ensures e p _ refl
