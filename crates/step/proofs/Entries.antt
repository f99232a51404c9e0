-- The entries of an action by their numbers: their literals rise, so each has its own condition. Assumes nothing.
use Rattle.std.proofs.Common.{◌≡◌, refl, sym, ap, true, false, List, [], ◌∷◌, ℕ, zero, suc, ◌+◌, ◌≤◌, ◌<◌, suc-le-suc, arith, length}
use native.Mathlib.Decide.{ℕ_discrete}
use Rattle.std.proofs.lemmas.Bool.Decides.{nat_tests}
use Rattle.model.specs.{Formula.Literal, Formula.Formula, Action.Effect, Action.same_literal, Action.condition_in, FormulaBytes.is_literal, FormulaBytes.literal_byte, WellFormed.Declared}
use Rattle.fields.specs.ActionBytes.{Rising}
use Rattle.step.specs.Conditions.{entry_at}

-- the literal's byte of the entry numbered i
abbrev pub byte_at : List Effect → ℕ → ℕ
byte_at es i = literal_byte (entry_at es i).literal

-- its literal is declared, and not below the least
pub declared-at : (facts least : ℕ) (es : List Effect) (i : ℕ) → Rising facts least es → i < length es → Declared facts (entry_at es i).literal × (least ≤ byte_at es i)
declared-at facts least [] i ok h = absurd (omega arith)
declared-at facts least (e ∷ es) zero ok h = (ok.0, ok.1)
declared-at facts least (e ∷ es) (suc i) ok h = let (d, l) = declared-at facts (literal_byte e.literal + 1) es i ok.2 (omega arith) in (d, omega (arith, ok.1))

pub rises : (facts least : ℕ) (es : List Effect) (i k : ℕ) → Rising facts least es → i < k → k < length es → byte_at es i < byte_at es k
rises facts least [] i k ok l h = absurd (omega arith)
rises facts least (e ∷ es) i zero ok l h = absurd (omega arith)
rises facts least (e ∷ es) zero (suc k) ok l h = omega (arith, (declared-at facts (literal_byte e.literal + 1) es k ok.2 (omega arith)).1)
rises facts least (e ∷ es) (suc i) (suc k) ok l h = rises facts (literal_byte e.literal + 1) es i k ok.2 (omega arith) (omega arith)

pub rises-from : (facts : ℕ) (es : List Effect) (i k : ℕ) → Rising facts 0 es → i ≤ k → k < length es → byte_at es i ≤ byte_at es k
rises-from facts es i k ok l h =
    elim (ℕ_discrete i k) [ yes e ↦ omega (arith, ap (byte_at es) e) | no n ↦ omega (arith, rises facts 0 es i k ok (omega arith) h) ]

-- what is declared of some facts is declared of more
declared-wider : (m n : ℕ) (l : Literal) → m ≤ n → Declared m l → Declared n l
declared-wider m n l h d = grind arith

pub rising-wider : (m n least : ℕ) (es : List Effect) → m ≤ n → Rising m least es → Rising n least es
rising-wider m n least [] h ok = tt
rising-wider m n least (e ∷ es) h ok = (declared-wider m n e.literal h ok.0, ok.1, rising-wider m n (literal_byte e.literal + 1) es h ok.2)

pub literal-wider : (m n b : ℕ) → m ≤ n → is_literal m b ≡ true → is_literal n b ≡ true
unfolding is_literal
literal-wider m n b h i = grind (arith, nat_tests)

-- literals that are declared and rise, entry by entry
pub rising-by :
    (facts least : ℕ) (es : List Effect) → ((i : ℕ) → i < length es → Declared facts (entry_at es i).literal × (least ≤ byte_at es i)) →
    ((i k : ℕ) → i < k → k < length es → byte_at es i < byte_at es k) → Rising facts least es
rising-by facts least [] d r = tt
rising-by facts least (e ∷ es) d r =
    let (here, low) = d zero (omega arith) in (
      here,
      low,
      rising-by facts (literal_byte e.literal + 1) es
          (λ i h. ((d (suc i) (omega arith)).0, omega (arith, r zero (suc i) (omega arith) (omega arith))))
          (λ i k a b. r (suc i) (suc k) (omega arith) (omega arith)),
    )

-- ---- the condition of a literal

same_self : (l : Literal) → same_literal l l ≡ true
same_self l = grind (arith, nat_tests)

same-other : (l m : Literal) → (l ≡ m → ⊥) → same_literal l m ≡ false
same-other l m n = grind (arith, nat_tests)

-- a literal without an entry, as one below the least is
pub condition-none :
    (es : List Effect) (l : Literal) (φ : Formula) → ((i : ℕ) → i < length es → (entry_at es i).literal ≡ l → ⊥) → condition_in φ l es ≡ φ
unfolding condition_in
condition-none [] l φ n = refl
condition-none (e ∷ es) l φ n =
    rw (same-other l e.literal (λ z. n zero (omega arith) (sym z))) (condition-none es l φ (λ i b. n (suc i) (suc-le-suc b)))

module _ (facts least : ℕ) (es : List Effect) (ok : Rising facts least es) where
  pub condition-below : (l : Literal) (φ : Formula) → literal_byte l < least → condition_in φ l es ≡ φ
  condition-below l φ b = condition-none es l φ (λ i h z. omega (arith, (declared-at facts least es i ok h).1, ap literal_byte z))

pub condition-at :
    (facts least : ℕ) (es : List Effect) (i : ℕ) (φ : Formula) → Rising facts least es → i < length es → condition_in φ (entry_at es i).literal es ≡ (entry_at es i).condition
unfolding condition_in
condition-at facts least [] i φ ok h = absurd (omega arith)
condition-at facts least (e ∷ es) zero φ ok h = rw (same_self e.literal) (condition-below facts (literal_byte e.literal + 1) es ok.2 e.literal e.condition (omega arith))
condition-at facts least (e ∷ es) (suc i) φ ok h = condition-at facts (literal_byte e.literal + 1) es i _ ok.2 (omega arith)
