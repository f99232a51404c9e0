use Rattle.std.proofs.Common.{◌≡◌, ◌-◌, arith, length, refl, ◌∙◌}
use Rattle.std.proofs.lemmas.List.{length-set, drop_all}
use Rattle.model.specs.Read.{bytes_of}
use Rattle.numbers.proofs.Bytes.{byte-before}
use Rattle.numbers.proofs.put_number.Goals as goal

pub loop-i-init : goal.loop-i-init
unfolding bytes_of
loop-i-init c =
    let z : length c.args.out.now - length c.args.out.now ≡ 0 = omega arith in
    (refl, rw z (drop_all (length c.args.out.now) c.args.out.now (omega arith)), rw z (omega arith))

pub loop-i-preserved : goal.loop-i-preserved
loop-i-preserved c =
    let l = c.loop-i in
    let (size, stored, left) = l.invariant in
    let (b, r) = byte-before l.out l.i (length c.args.out.now) c.args.x l.rest (omega arith) (omega arith) (omega (arith, size)) stored left in
    (length-set _ _ _ ∙ size, b, r)
