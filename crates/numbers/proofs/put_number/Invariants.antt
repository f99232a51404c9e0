-- the bytes from i on are stored, and the rest is what is above them
use Rattle.std.proofs.Common.{◌≡◌, ◌-◌, ◌/◌, ◌^◌, length, drop}
use Rattle.model.specs.Read.{bytes_of}
use Rattle.numbers.proofs.put_number.Given as goal

abbrev pub invariant-loop-i : goal.invariant-loop-i
invariant-loop-i l =
    (length l.out ≡ length l.fn.out) × (drop l.i l.out ≡ bytes_of (length l.fn.out - l.i) l.x) × (l.rest ≡ l.x / 256 ^ (length l.fn.out - l.i))
