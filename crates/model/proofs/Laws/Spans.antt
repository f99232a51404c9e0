-- Where the parts of a block stand: each is known by the bytes that encode it, and by no reader.
use Rattle.model.proofs.Words.{◌≡◌, List, [], ◌∷◌, ℕ, ◌+◌, ◌≤◌, ◌<◌, length, get_or, max_effects, Formula, Action, encode_formula, action_bytes, FormulaOk, EffectsOk}

-- the bytes xs stand in s from p up to q, before `end`
pub data Span (s : List ℕ) (end : ℕ) : ℕ → List ℕ → ℕ → Type 0 where
  nothing : {p q : ℕ} → p ≡ q → Span s end p [] q
  next : {p q x : ℕ} {xs : List ℕ} → p < end → get_or s p 0 ≡ x → Span s end (p + 1) xs q → Span s end p (x ∷ xs) q

-- the sound formula f over so many facts stands from p up to q, its length field first
pub record FormulaAt (s : List ℕ) (facts p : ℕ) (f : Formula) (q : ℕ) : Type 0 where
  pub ok : FormulaOk facts f
  pub bytes : Span s (length s) p (encode_formula f) q

-- so does the sound action a
pub record ActionAt (s : List ℕ) (facts p : ℕ) (a : Action) (q : ℕ) : Type 0 where
  pub precondition : FormulaOk facts a.precondition
  pub few : length a.effects ≤ max_effects
  pub effects : EffectsOk facts 0 a.effects
  pub bytes : Span s (length s) p (action_bytes a) q
