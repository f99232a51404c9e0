-- How the code holds the values of 64 cases at once, a bit each: a case has a lane. Two words have a value in every lane: `some`, where it
-- is not no, and `sure`, where it is yes.
use Rattle.std.specs.Prelude.{◌≡◌, List, ℕ, ◌+◌, ◌*◌, ◌/◌, ◌%◌, ◌^◌, ◌<◌, get_or}
use Rattle.model.specs.Kleene.{Kleene, No, Unknown, Yes, three}
use Rattle.model.specs.Formula.{value_of}
use Rattle.model.specs.FormulaBytes.{literal_of}

-- the bit of lane j
unfoldable pub lane_bit : ℕ → ℕ → ℕ
lane_bit j x = x / 2 ^ j % 2

-- every lane's bit
abbrev pub ones : ℕ
ones = 0xffffffffffffffff

abbrev pub some_bit : Kleene → ℕ
some_bit No = 0
some_bit Unknown = 1
some_bit Yes = 1

abbrev pub sure_bit : Kleene → ℕ
sure_bit No = 0
sure_bit Unknown = 0
sure_bit Yes = 1

-- the two words have the value t in lane j
pub record InLane (j some sure : ℕ) (t : Kleene) : Type 0 where
  pub is_some : lane_bit j some ≡ some_bit t
  pub is_sure : lane_bit j sure ≡ sure_bit t

-- and in each lane its value
pub record InLanes (some sure : ℕ) (t : ℕ → Kleene) : Type 0 where
  pub lane : (j : ℕ) → j < 64 → InLane j some sure (t j)

-- A table of cases: the two words of the literal with the byte b stand at twice b, so that a denial's stand 128 after its fact's. The
-- case in lane j has the values `case j`.
pub record Table (c : List ℕ) (case : ℕ → List Kleene) : Type 0 where
  pub literal : (b : ℕ) → b < 128 → InLanes (get_or c (2 * b) 0) (get_or c (2 * b + 1) 0) (λ j. value_of three (case j) (literal_of b))
