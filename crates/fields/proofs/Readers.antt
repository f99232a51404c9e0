-- What comes after a reader, what a header that was read says, an effect, and effects one by one. Assumes nothing.
use Rattle.std.proofs.Common.{◌≡◌, sym, ◌∙◌, ap, List, ℕ, ◌≤◌, suc, ◌+◌, ◌-◌, ◌<◌, length, get_or, leb-true, lt-ltb, le-leb, Result, Ok, Err, true, arith}
use Rattle.model.specs.Read.{Read, reject, got, Reader, and_then, ◌>>◌, head_bytes, header, ◌>>=◌, done, position, require, byte}
use Rattle.model.specs.declared.Refusal.{Refusal}
use Rattle.model.proofs.Laws.Reading.{then-got, got-inj, needed}
use Rattle.formula.specs.Readings.{rejected, position_read, forgotten}
use Rattle.formula.proofs.Readers.{next-got, next-refused, then_next}
use native.Mathlib.Decide.{dec_lt}
use Rattle.model.specs.Limits.{max_facts}
use Rattle.model.specs.Formula.{Formula}
use Rattle.model.specs.Action.{Effect}
use Rattle.model.specs.FormulaBytes.{is_literal, literal_of, literal_byte, formula}
use Rattle.model.specs.ProblemBytes.{effect, effects}
use Rattle.model.proofs.Laws.Planes.{literal-fact, literal-denial}
use Rattle.fields.specs.Effects.{EffectGot, EffectRead}

-- what was refused stays refused
pub stays-refused :
    {A B : Type 0} (x : Read A) (k : A → Reader B) {n q : ℕ} → reject n q ≡ forgotten x → reject n q ≡ forgotten (and_then x k)
unfolding and_then forgotten
stays-refused x k e = rw (next-refused x _ _ e)

-- a block whose header is right has one, and begins its body after it
pub header-got :
    (s : List ℕ) (number most : ℕ) (versions : Reader (Unit {0})) (q : ℕ) (u : Unit {0}) → header s number most versions 0 ≡ got u q →
    (head_bytes ≤ length s) × (q ≡ head_bytes)
unfolding header ◌>>◌
header-got s number most versions q u e =
    needed _ _ _ _ _ e λ t₁ h₁.
    needed _ _ _ _ _ h₁ λ t₂ h₂.
    then-got h₂ λ _ _ _ h₃.
    needed _ _ _ _ _ h₃ λ t₄ h₄.
    (leb-true head_bytes (length s) t₂, sym (got-inj h₄).1)

-- ---- effects

literal-byte : (b : ℕ) → literal_byte (literal_of b) ≡ b
literal-byte b = elim (dec_lt b max_facts) [ yes h ↦ rw (literal-fact b h) | no h ↦ rw (literal-denial b (omega arith)) (omega arith) ]

module _ (s : List ℕ) (facts least p : ℕ) where
  -- the effect of the literal at p, by what its formula's reader gives
  abbrev conditioned : Read Formula → Read Effect
  conditioned x = and_then x (λ f. done (record { literal = literal_of (get_or s p 0); condition = f }))

  module _ (h : p < length s) (k : is_literal facts (get_or s p 0) ≡ true) (l : least ≤ get_or s p 0) where
    effect_is : effect s facts least p ≡ conditioned (formula s facts (p + 1))
    unfolding effect ◌>>=◌ ◌>>◌ and_then position byte require
    effect_is = rw (lt-ltb p (length s) h, k, le-leb least (get_or s p 0) l)

    pub effect-formula : (r : Result ℕ Refusal) → position_read r ≡ forgotten (formula s facts (p + 1)) → EffectRead s facts least p r
    unfolding and_then done
    effect-formula (Err r) e = effect_is ∙ ap conditioned (next-refused _ _ _ e)
    effect-formula (Ok q) e =
        let g = next-got _ _ e in
        record { effect = _; read = effect_is ∙ ap conditioned g.is; literal = literal-byte (get_or s p 0); inside = h }

module _ (s : List ℕ) (facts least p : ℕ) where
  pub effects-refused : {n : ℕ} (r : Refusal) → 0 < n → effect s facts least p ≡ rejected r → rejected r ≡ forgotten (effects s facts n least p)
  unfolding effects ◌>>=◌ and_then forgotten
  effects-refused {n} r h e = let z : n ≡ suc (n - 1) = omega arith in rw (z, e)

  pub effects-next :
      {n k q : ℕ} → n ≡ suc k → EffectGot s facts least p q → forgotten (effects s facts n least p) ≡ forgotten (effects s facts k (get_or s p 0 + 1) q)
  unfolding effects ◌>>=◌ and_then done
  effects-next e g = rw (e, g.read, ← g.literal) (then_next _ _)
