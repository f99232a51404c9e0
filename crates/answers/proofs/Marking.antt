-- A value's marks, fact by fact. Assumes nothing.
use Rattle.std.proofs.Common.{◌≡◌, sym, refl, [], ◌∷◌, ◌++◌, ℕ, zero, suc, ◌+◌, ◌<◌, add-one, arith, Result, Ok, Err, IsOk, MatchResult}
use Rattle.std.specs.Str.{IsAscii, IsUtf8}
use Rattle.std.proofs.lemmas.Str.{IsUtf8-from_ascii}
use Rattle.model.specs.{Action.tabulate, DeskText.mark, DeskText.marks}
use Rattle.model.proofs.Laws.Tabulate.{tabulate-last}

mark-ascii : (w k v i : ℕ) → mark w k v i < 128
mark-ascii w k v i = grind arith

tabulate-ascii : (n : ℕ) (f : ℕ → ℕ) → ((i : ℕ) → f i < 128) → IsAscii (tabulate n f)
tabulate-ascii zero f h i = omega arith
tabulate-ascii (suc n) f h zero = h zero
tabulate-ascii (suc n) f h (suc i) = tabulate-ascii n (λ j. f (suc j)) (λ j. h (suc j)) i

module _ (w k v : ℕ) where
  -- one more mark
  pub marks-more : (n : ℕ) → marks w n k v ++ (mark w k v n ∷ []) ≡ marks w (n + 1) k v
  unfolding marks
  marks-more n = rw add-one (sym (tabulate-last n (mark w k v)))

  pub marks-text : (n : ℕ) → IsUtf8 (marks w n k v)
  unfolding marks
  marks-text n = IsUtf8-from_ascii _ (tabulate-ascii n (mark w k v) (λ i. mark-ascii w k v i))

-- what is tested to be text, and is, passes the test
pub passes : {A E U : Type 0} (P : A → Type 0) (Q : E → Type 0) (r : Result A E) → U → MatchResult r P (λ e. (U → ⊥) × Q e) → IsOk r
passes P Q (Ok a) u h = refl
passes P Q (Err e) u h = absurd (h.0 u)
