-- Effects of which something is so: by their literals, and by the facts that these are of. Assumes nothing.
use Rattle.backward.proofs.Words.{◌≡◌, refl, sym, ap, subst, ◌∙◌, Bool, true, false, ◌&&◌, ◌||◌, inl, inr, List, [], ◌∷◌, ℕ, zero, suc, ◌+◌, ◌≤◌, ◌<◌, arith, length, get_or, nat_tests, false≢true, Literal, fact, denial, Formula, any, none, Effect, same_literal, condition_in, condition_of, literal_byte, some, has_entry, same_truth, and-true, or-first, or-second, or_cases, some_at, without-entry, Rising}
use Rattle.model.specs.WellFormed.{Declared}

-- ---- one of n

pub some_of : (n : ℕ) (p : ℕ → Bool) → some n p ≡ true → (i : ℕ) × (i < n) × (p i ≡ true)
unfolding some
some_of zero p e = absurd (false≢true e)
some_of (suc n) p e =
    elim (or_cases (p zero) _ e) [
      | inl h ↦ (zero, omega arith, h)
      | inr h ↦ let (i, l, k) = some_of n (λ j. p (suc j)) h in (suc i, omega arith, k)
    ]

-- ---- one of the effects

-- the effect numbered i
abbrev pub entry_at : List Effect → ℕ → Effect
entry_at es i = get_or es i (record { literal = fact 0; condition = any none })

unfoldable pub some_entry : (Effect → Bool) → List Effect → Bool
some_entry p [] = false
some_entry p (e ∷ es) = p e || some_entry p es

entry_of : (p : Effect → Bool) (es : List Effect) → some_entry p es ≡ true → (i : ℕ) × (i < length es) × (p (entry_at es i) ≡ true)
unfolding some_entry
entry_of p [] e = absurd (false≢true e)
entry_of p (x ∷ es) e =
    elim (or_cases (p x) _ e) [
      | inl h ↦ (zero, omega arith, h)
      | inr h ↦ let (i, l, k) = entry_of p es h in (suc i, omega arith, k)
    ]

entry-some : (p : Effect → Bool) (es : List Effect) (i : ℕ) → i < length es → p (entry_at es i) ≡ true → some_entry p es ≡ true
unfolding some_entry
entry-some p [] i l e = absurd (omega arith)
entry-some p (x ∷ es) zero l e = or-first (p x) _ e
entry-some p (x ∷ es) (suc i) l e = or-second (p x) _ (entry-some p es i (omega arith) e)

-- a literal's effect
same_self : (l : Literal) → same_literal l l ≡ true
same_self l = grind (arith, nat_tests)

pub same-is : (l m : Literal) → same_literal l m ≡ true → l ≡ m
same-is l m e = grind (arith, nat_tests)

pub entry_has : (l : Literal) (es : List Effect) → some_entry (λ e. same_literal l e.literal) es ≡ has_entry l es
unfolding some_entry has_entry
entry_has l [] = refl
entry_has l (e ∷ es) = ap (λ b. same_literal l e.literal || b) (entry_has l es)

same-other : (l m : Literal) → (l ≡ m → ⊥) → same_literal l m ≡ false
same-other l m n = grind (arith, nat_tests)

-- a literal without an effect
condition-none : (es : List Effect) (l : Literal) (found : Formula) → ((i : ℕ) → i < length es → (entry_at es i).literal ≡ l → ⊥) → condition_in found l es ≡ found
unfolding condition_in
condition-none [] l found n = refl
condition-none (e ∷ es) l found n = rw (same-other l e.literal (λ z. n zero (omega arith) (sym z))) (condition-none es l found (λ i b. n (suc i) (omega arith)))

-- ---- effects whose literals rise

module _ (facts : ℕ) where
  -- a literal is declared, and not below the least
  declared-at :
      (least : ℕ) (es : List Effect) (i : ℕ) → Rising facts least es → i < length es →
      Declared facts (entry_at es i).literal × (least ≤ literal_byte (entry_at es i).literal)
  declared-at least [] i ok h = absurd (omega arith)
  declared-at least (e ∷ es) zero ok h = (ok.0, ok.1)
  declared-at least (e ∷ es) (suc i) ok h = let (d, l) = declared-at (literal_byte e.literal + 1) es i ok.2 (omega arith) in (d, omega (arith, ok.1))

  -- so its condition is that of its effect
  condition-at :
      (least : ℕ) (es : List Effect) (i : ℕ) → Rising facts least es → i < length es → (found : Formula) →
      condition_in found (entry_at es i).literal es ≡ (entry_at es i).condition
  unfolding condition_in
  condition-at least [] i ok h found = absurd (omega arith)
  condition-at least (e ∷ es) zero ok h found =
      rw (same_self e.literal)
      (condition-none es e.literal e.condition (λ i l k. omega (arith, (declared-at (literal_byte e.literal + 1) es i ok.2 l).1, ap literal_byte k)))
  condition-at least (e ∷ es) (suc i) ok h found = condition-at (literal_byte e.literal + 1) es i ok.2 (omega arith) _

module _ (facts : ℕ) (es : List Effect) (ok : Rising facts 0 es) (q : Formula → Bool) (never : q (any none) ≡ false) where
  -- a literal whose condition is so has an effect of which it is so
  with-condition : (l : Literal) → q (condition_of l es) ≡ true → (i : ℕ) × (i < length es) × ((entry_at es i).literal ≡ l) × (q (entry_at es i).condition ≡ true)
  with-condition l e = by-entry (has_entry l es) refl
    where
      by-entry : (b : Bool) → has_entry l es ≡ b → (i : ℕ) × (i < length es) × ((entry_at es i).literal ≡ l) × (q (entry_at es i).condition ≡ true)
      by-entry true h =
          let (i, k, s) = entry_of (λ e. same_literal l e.literal) es (entry_has l es ∙ h) in
          let m = same-is l (entry_at es i).literal s in
          (i, k, sym m, ap q (sym (condition-at facts 0 es i ok k (any none)) ∙ ap (λ (x : Literal). condition_of x es) (sym m)) ∙ e)
      by-entry false h = absurd (false≢true (sym never ∙ ap q (sym (without-entry l es h (any none))) ∙ e))

  -- and is of a declared fact
  pub condition-declared : (l : Literal) → q (condition_of l es) ≡ true → Declared facts l
  condition-declared l e =
      let (i, k, m, h) = with-condition l e in
      subst (Declared facts) m (declared-at facts 0 es i ok k).0

  -- the effect of one literal
  pub entry-condition : (l : Literal) → some_entry (λ e. same_literal l e.literal && q e.condition) es ≡ q (condition_of l es)
  entry-condition l =
      same_truth _ _
      (λ h.
      let (i, k, s) = entry_of (λ e. same_literal l e.literal && q e.condition) es h in
      let (a, b) = and-true (same_literal l (entry_at es i).literal) _ s in
      ap (λ (x : Literal). q (condition_of x es)) (same-is l (entry_at es i).literal a) ∙ ap q (condition-at facts 0 es i ok k (any none)) ∙ b)
      (λ h.
      let (i, k, s, b) = with-condition l h in
      entry-some (λ e. same_literal l e.literal && q e.condition) es i k (rw (s, same_self l, b)))

  -- the effects of the literals of which W says so, fact by fact
  pub entries-by-fact :
      (W : Literal → Bool) →
      some_entry (λ e. W e.literal && q e.condition) es ≡
      some facts (λ g. (W (fact g) && q (condition_of (fact g) es)) || (W (denial g) && q (condition_of (denial g) es)))
  entries-by-fact W = same_truth _ _ to from
    where
      asked : ℕ → Bool
      asked g = (W (fact g) && q (condition_of (fact g) es)) || (W (denial g) && q (condition_of (denial g) es))

      of-literal : (l : Literal) → Declared facts l → W l ≡ true → q (condition_of l es) ≡ true → some facts asked ≡ true
      of-literal (fact g) d a b = some_at facts asked g d (rw (a, b))
      of-literal (denial g) d a b = some_at facts asked g d (or-second (W (fact g) && q (condition_of (fact g) es)) _ (rw (a, b)))

      to : some_entry (λ e. W e.literal && q e.condition) es ≡ true → some facts asked ≡ true
      to h =
          let (i, k, s) = entry_of (λ e. W e.literal && q e.condition) es h in
          let (a, b) = and-true (W (entry_at es i).literal) _ s in
          of-literal (entry_at es i).literal (declared-at facts 0 es i ok k).0 a (ap q (condition-at facts 0 es i ok k (any none)) ∙ b)

      of-condition : (l : Literal) → W l ≡ true → q (condition_of l es) ≡ true → some_entry (λ e. W e.literal && q e.condition) es ≡ true
      of-condition l a b =
          let (i, k, s, c) = with-condition l b in
          entry-some (λ e. W e.literal && q e.condition) es i k (rw (s, a, c))

      from : some facts asked ≡ true → some_entry (λ e. W e.literal && q e.condition) es ≡ true
      from h =
          let (g, k, s) = some_of facts asked h in
          elim (or_cases (W (fact g) && q (condition_of (fact g) es)) _ s) [
            | inl x ↦ let (a, b) = and-true (W (fact g)) _ x in of-condition (fact g) a b
            | inr x ↦ let (a, b) = and-true (W (denial g)) _ x in of-condition (denial g) a b
          ]
