-- after i bytes the number is theirs
use Rattle.std.proofs.Common.{◌≡◌, ◌^◌, ◌<◌, take}
use Rattle.model.specs.Read.{big_endian}
use Rattle.numbers.proofs.read_number.Given as goal

abbrev pub invariant-loop-b : goal.invariant-loop-b
invariant-loop-b l = (l.x ≡ big_endian (take l.b-index l.bytes)) × (l.x < 256 ^ l.b-index)
