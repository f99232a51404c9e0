use Rattle.std.proofs.Common.{refl, arith}
use Rattle.model.specs.Search.{plan_count}
use Rattle.search.proofs.Counting.{count_next, count_room}
use Rattle.search.proofs.operation.plan_count.Goals as goal

pub loop-init : goal.loop-init
unfolding plan_count
loop-init c = refl

pub overflow_mul-count : goal.overflow_mul-count
overflow_mul-count c = omega (arith, count_room _ _ _ c.loop.invariant _ c.requires.few c.loop-test.true c.requires.short)

pub overflow_add-count : goal.overflow_add-count
overflow_add-count c = omega (arith, count_room _ _ _ c.loop.invariant _ c.requires.few c.loop-test.true c.requires.short)

pub loop-preserved : goal.loop-preserved
loop-preserved c = count_next _ _ _ c.loop.invariant
