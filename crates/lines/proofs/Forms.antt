-- A kind by its number. Assumes nothing.
use Rattle.std.proofs.Common.{◌≡◌, ℕ, ◌≤◌, ◌<◌, arith}
use Rattle.model.specs.Walk.{Kind, empty, carries, kind_number}

-- a kind's mark
pub past-kinds : (b : ℕ) → ((κ : Kind) → b ≡ kind_number κ → ⊥) → 1 < b
past-kinds b h = let none : b ≡ 0 → ⊥ = h empty in let one : b ≡ 1 → ⊥ = h carries in omega arith

pub kind_small : (κ : Kind) → kind_number κ ≤ 1
kind_small κ = grind arith
