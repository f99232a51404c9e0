-- Words of 64 lanes, and a table of 256 of them, as they are made and changed.
use Rattle.std.specs.Prelude.{◌≡◌, List, ℕ, ◌+◌, ◌-◌, ◌*◌, ◌^◌, ◌≤◌, ◌<◌, length, get_or}
use Rattle.model.specs.Kleene.{Kleene, No, three}
use Rattle.model.specs.Formula.{value_of}
use Rattle.model.specs.FormulaBytes.{literal_of}
use Rattle.model.specs.Case.{case_of}
use Rattle.model.specs.Planes.{lane_bit, InLanes, Table}

-- every lane has the bit that this one has in x
abbrev pub Spread : ℕ → ℕ → ℕ → Type 0
Spread x lane r = (j : ℕ) → j < 64 → lane_bit j r ≡ lane_bit lane x

-- The number of a state or of a case that is w bits wide, as a word of 64: fact 0 is the top bit of it, whatever the width. So cases know
-- no width.
abbrev pub raised : ℕ → ℕ → ℕ
raised w v = v * 2 ^ (64 - w)

-- whatever it fixes of the facts that it has room for, the word is the same case
abbrev pub SameCase : ℕ → ℕ → ℕ → Type 0
SameCase w v word = (facts fixed : ℕ) → facts ≤ w → case_of 64 facts fixed word ≡ case_of w facts fixed v

-- the literal with the byte b has the value t in each lane, and every other fact the value that it had
pub record SetsLiteral (words : List ℕ) (b some sure : ℕ) (words' : List ℕ) : Type 0 where
  pub size : length words' ≡ 256
  pub is :
      (case case' : ℕ → List Kleene) (t : ℕ → Kleene) → Table words case → InLanes some sure t →
      ((j g : ℕ) → (g ≡ b → ⊥) → (g + 64 ≡ b → ⊥) → get_or (case' j) g No ≡ get_or (case j) g No) →
      ((j : ℕ) → j < 64 → value_of three (case' j) (literal_of b) ≡ t j) → Table words' case'

-- the first so many facts get the values of another table, in which the other facts are as they were
pub record CopiesFacts (facts : ℕ) (words from words' : List ℕ) : Type 0 where
  pub size : length words' ≡ 256
  pub is :
      (case case' : ℕ → List Kleene) → Table words case → Table from case' →
      ((j g : ℕ) → facts ≤ g → get_or (case' j) g No ≡ get_or (case j) g No) → Table words' case'
