use Rattle.std.proofs.Common.{◌≡◌, ◌-◌, ◌+◌, ◌∙◌, refl, ap, arith, length, length-take, length-drop, take, drop}
use lib.Seq.{sets, length-sets}
use Rattle.model.specs.Read.{bytes_of}
use Rattle.model.proofs.{Laws.Reading.length-bytes_of, Laws.Stores.part-put}
use Rattle.numbers.proofs.writer.Writer.put_number.Goals as goal

pub slice_bounds-put_number-end : goal.slice_bounds-put_number-end
slice_bounds-put_number-end c = omega (arith, length-bytes_of c.args.bytes c.args.number)

pub returns : goal.returns
returns c =
    let w = c.args.self.now in
    let n = c.args.bytes in
    let m = length-bytes_of n c.args.number in
    let k : w.at + n - w.at ≡ n = omega arith in
    let long : length (take n (drop w.at w.out.now)) ≡ n = length-take n (drop w.at w.out.now) ∙ omega (arith, length-drop w.at w.out.now, m) in
    let put : c.put_number.new.out ≡ bytes_of n c.args.number = c.put_number.ensures ∙ rw (k, long) refl in
    let place : w.at + n ≡ w.at + length (bytes_of n c.args.number) = omega (arith, m) in
    let is = rw k (part-put w.at n w.out.now _ (omega (arith, m)) (ap length put ∙ m)) ∙ ap (sets w.out.now w.at) put in
    record { same = refl; size = ap length is ∙ length-sets w.out.now w.at (bytes_of n c.args.number); place = place; is = is }
