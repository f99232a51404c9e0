-- What writing lines leaves in a buffer.
use Rattle.std.specs.Prelude.{◌≡◌, List, [], ◌∷◌, ℕ, ◌+◌, ◌-◌, ◌*◌, ◌≤◌, length}
use Rattle.std.proofs.lemmas.List.Edits.{sets}
use Rattle.model.specs.declared.Limits.{Limits}
use Rattle.model.specs.Walk.{Line}
use Rattle.model.specs.Read.{bytes_of}
use Rattle.model.specs.ListBytes.{lines_bytes}

-- a line's bytes, so many in all
abbrev pub filled : ℕ → Line → List ℕ
filled size l = l.kind ∷ l.k ∷ bytes_of (size - 2) l.value

-- the lines ls were put into `before` at `to`; they end at r, and the buffer is `after`
pub record Laid (F : Limits) (before : List ℕ) (to : ℕ) (ls : List Line) (r : ℕ) (after : List ℕ) : Type 0 where
  pub end : r ≡ to + F.line * length ls
  pub bytes : after ≡ sets before to (lines_bytes F ls)

-- so they were if they fit
abbrev pub LinesLaid : Limits → List ℕ → ℕ → List Line → ℕ → List ℕ → Type 0
LinesLaid F before to ls r after = to + F.line * length ls ≤ length before → Laid F before to ls r after

pub record AddsLine (F : Limits) (before : List ℕ) (to : ℕ) (l : Line) (r : ℕ) (after : List ℕ) : Type 0 where
  pub same : length after ≡ length before
  pub is : LinesLaid F before to (l ∷ []) r after
