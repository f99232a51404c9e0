use Rattle.std.proofs.Common.{arith, refl}
use Rattle.model.specs.Read.{big_endian_from}
use Rattle.numbers.proofs.Bytes.{one_more, grows, fits}
use Rattle.numbers.proofs.read_number.Goals as goal

pub loop-b-init : goal.loop-b-init
unfolding big_endian_from
loop-b-init c = (refl, omega arith)

pub overflow_mul-x : goal.overflow_mul-x
overflow_mul-x c = omega (arith, fits c.loop-b.b-index c.loop-b.x 0 (omega arith) c.loop-b.invariant.1 (omega arith))

pub loop-b-preserved : goal.loop-b-preserved
loop-b-preserved c =
    let l = c.loop-b in
    (one_more c.args.bytes.now l.b-index l.x c.loop-b-test.true l.invariant.0, grows l.b-index l.x _ l.invariant.1 (omega arith))
