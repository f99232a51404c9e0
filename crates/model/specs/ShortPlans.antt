-- The steps of a short plan, with 0 past them in the room that it has.
use Rattle.std.specs.Prelude.{◌≡◌, List, ◌++◌, ℕ, ◌-◌, ◌≤◌, length, take, drop, replicate}
use Rattle.std.proofs.Common.{arith, take-append-drop, length-take-le}
use Rattle.model.specs.Limits.{max_length}

abbrev pub padded : List ℕ → List ℕ
padded l = l ++ replicate (max_length - length l) 0

-- so many of the steps are a plan's, and 0 stands past them
pub record HoldsPlan (count : ℕ) (steps : List ℕ) : Type 0 where
  pub few : count ≤ max_length
  pub size : length steps ≡ max_length
  pub past : drop count steps ≡ replicate (max_length - count) 0

pub length-taken : (count : ℕ) (steps : List ℕ) → HoldsPlan count steps → length (take count steps) ≡ count
length-taken count steps h = length-take-le count steps (omega arith)

pub padded-taken : (count : ℕ) (steps : List ℕ) → HoldsPlan count steps → padded (take count steps) ≡ steps
padded-taken count steps h = rw (length-taken count steps h, ← h.past) (take-append-drop count steps)
