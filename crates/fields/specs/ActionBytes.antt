-- The effects that bytes begin with.
use Rattle.std.specs.Prelude.{Bool, true, ◌&&◌, List, [], ◌∷◌, ℕ, zero, suc, ◌+◌, ◌*◌, ◌≤◌, length, take, drop, get_or, leb, eqb}
use Rattle.model.specs.Limits.{max_effects}
use Rattle.model.specs.Action.{Effect, Action}
use Rattle.model.specs.FormulaBytes.{is_literal, literal_of, literal_byte, member_count}
use Rattle.model.specs.WellFormed.{Declared}
use Rattle.formula.specs.Decoding.{decode, head, is_sound}

-- what a length field says
abbrev pub stated : List ℕ → ℕ
stated s = get_or s 0 0 * 256 + get_or s 1 0

-- the bytes of the formula after its length field, and what follows it
abbrev pub body : List ℕ → List ℕ
body s = take (stated s) (drop 2 s)

abbrev pub beyond : List ℕ → List ℕ
beyond s = drop (stated s) (drop 2 s)

-- the bytes begin with a formula, its length field first
abbrev pub is_stated : List ℕ → Bool
is_stated s = leb (2 + stated s) (length s) && (is_sound (body s) && eqb (member_count (decode (body s))) 1)

unfoldable pub effects_of : ℕ → List ℕ → List Effect
effects_of zero s = []
effects_of (suc n) s = record { literal = literal_of (get_or s 0 0); condition = head (decode (body (drop 1 s))) } ∷ effects_of n (beyond (drop 1 s))

-- each literal is of one of so many facts, and they rise strictly, from the byte `least` on
unfoldable pub are_effects : ℕ → ℕ → ℕ → List ℕ → Bool
are_effects facts least zero s = true
are_effects facts least (suc n) s =
    (is_literal facts (get_or s 0 0) && leb least (get_or s 0 0)) && (is_stated (drop 1 s) && are_effects facts (get_or s 0 0 + 1) n (beyond (drop 1 s)))

-- so it is said of effects themselves
abbrev pub Rising : ℕ → ℕ → List Effect → Type 0
Rising facts least [] = Unit {0}
Rising facts least (e ∷ es) = Declared facts e.literal × (least ≤ literal_byte e.literal) × Rising facts (literal_byte e.literal + 1) es

-- the action that the bytes begin with: its precondition, its effect count, its effects
abbrev pub action_of : List ℕ → Action
action_of s = record { precondition = head (decode (body s)); effects = effects_of (get_or (beyond s) 0 0) (drop 1 (beyond s)) }

abbrev pub is_action : ℕ → List ℕ → Bool
is_action facts s =
    is_stated s && (leb 1 (length (beyond s)) && (leb (get_or (beyond s) 0 0) max_effects && are_effects facts 0 (get_or (beyond s) 0 0) (drop 1 (beyond s))))
