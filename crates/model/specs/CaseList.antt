-- Following the lines of a case list: what is asked of each, and of the end.
use Rattle.std.specs.Prelude.{Bool, true, false, not, List, [], ◌∷◌, ℕ, zero, suc, ◌+◌, ◌-◌, ◌%◌, ◌^◌, eqb, ltb}
use Rattle.model.specs.Walk.{kind_number, Look, closed, opened, Line}
use Rattle.model.specs.Answer.{Answer, refused, answered}

-- whether a case that looks so is of the kind claimed
abbrev pub claims : ℕ → Look → Bool
claims d (closed κ) = eqb d (kind_number κ)
claims d opened = false

-- the first number whose test says so, and 0 for none
unfoldable pub first : Bool → ℕ → ℕ → ℕ
first true number rest = number
first false number rest = rest

-- a refusal by that number at line i, or what follows
unfoldable pub refuse_at : ℕ → ℕ → Answer ℕ → Answer ℕ
refuse_at zero i rest = rest
refuse_at (suc number) i rest = refused (suc number) i

-- after the last line the cover has to end where the numbers do, else 70, at the line count; the answer is that count
unfoldable pub ends : Bool → ℕ → Answer ℕ
ends true i = answered i
ends false i = refused 70 i

module _ (w : ℕ) (look : ℕ → ℕ → Look) (n : ℕ) where
  -- order of line faults: the first fault of a line that should begin at x, and 0 for none: 65 if its kind is none, 66 if it fixes more facts than
  -- there are, 67 if its value has a bit past those that it fixes, 68 if it begins elsewhere, 69 if what it claims is not so
  unfoldable pub fault : Line → ℕ → ℕ
  fault l x =
      first (ltb 1 l.kind) 65
      (first (ltb n l.k) 66
      (first (not (eqb (l.value % 2 ^ (w - l.k)) 0)) 67
      (first (not (eqb l.value x)) 68
      (first (not (claims l.kind (look l.k l.value))) 69 0))))

  -- lines from number i on, where the cover so far ends at x: a line that begins at v and fixes k facts covers the numbers from v on, as many as
  -- the facts that it leaves open have values. A fault's place is the line's number.
  unfoldable pub follow : List Line → ℕ → ℕ → Answer ℕ
  follow [] i x = ends (eqb x (2 ^ w)) i
  follow (l ∷ ls) i x = let rest = follow ls (suc i) (x + 2 ^ (w - l.k)) in refuse_at (fault l x) i rest
