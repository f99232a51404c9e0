-- The parts of a header, for each of its tests.
use Rattle.std.specs.Prelude.{◌≡◌, List, ℕ, ◌+◌, ◌-◌, ◌≤◌, length, take, drop, Result, Ok, Err, eqb}
use Rattle.model.specs.Read.{Read, Reader, got, and_then, require, head_bytes, header, big_endian}
use Rattle.formula.specs.Readings.{rejected}
use Rattle.model.specs.declared.Refusal.{Refusal}

-- a block of at most `most` bytes that has room for a header, and otherwise what its header is refused for
abbrev pub RoomFor : List ℕ → ℕ → ℕ → Result (Unit {0}) Refusal → Type 0
RoomFor s number most (Ok u) = (length s ≤ most) × (head_bytes ≤ length s)
RoomFor s number most (Err r) = (versions : Reader (Unit {0})) → header s number most versions 0 ≡ rejected r

-- the test of the length field: the last of a header
unfoldable pub length_read : List ℕ → ℕ → Read (Unit {0})
length_read s number =
    and_then (require (eqb (big_endian (take 4 (drop 1 s))) (length s - head_bytes)) (number + 3) 1 0) (λ u p. got tt head_bytes)
