-- One step backward, from the sets that were found: set by set it is what the definition says of each fact. Assumes nothing.
use Rattle.backward.proofs.Words.{◌≡◌, refl, sym, ap, ap₂, ◌∙◌, Bool, false, cond, not, ◌&&◌, ◌||◌, List, ℕ, zero, suc, ◌≤◌, ◌<◌, arith, length, get_or, eqb, eq-eqb, eqb-true, false≢true, dec_lt, get_or-eq_default, max_facts, two, Action, names, some, set_and_cleared, set_names, clear_names, rests_on, matters_before, same_truth, and-true, or_assoc, some_at, FactSet, Mark, has_fact, GivesUnion, GivesRest, NamesAsked, MattersBefore}
use Rattle.backward.proofs.Entries.{some_of}
use Rattle.model.specs.Action.{sets}

-- ---- one of n

pub some_below : (n : ℕ) (p q : ℕ → Bool) → ((i : ℕ) → i < n → p i ≡ q i) → some n p ≡ some n q
unfolding some
some_below zero p q h = refl
some_below (suc n) p q h = ap₂ ◌||◌ (h zero (omega arith)) (some_below n (λ i. p (suc i)) (λ i. q (suc i)) (λ i l. h (suc i) (omega arith)))

some_or : (n : ℕ) (p q : ℕ → Bool) → (some n p || some n q) ≡ some n (λ g. p g || q g)
unfolding some
some_or zero p q = refl
some_or (suc n) p q = grind (arith, some_or n (λ i. p (suc i)) (λ i. q (suc i)))

-- the one that is f
some_one : (n f : ℕ) (k : ℕ → Bool) → (n ≤ f → k f ≡ false) → some n (λ g. eqb g f && k g) ≡ k f
some_one n f k past =
    same_truth _ _
    (λ h.
    let (g, l, e) = some_of n (λ g. eqb g f && k g) h in
    let (a, b) = and-true (eqb g f) _ e in
    ap k (sym (eqb-true g f a)) ∙ b)
    (λ h.
    elim (dec_lt f n) [
      | yes l ↦ some_at n (λ g. eqb g f && k g) f l (rw (eq-eqb f f refl, h))
      | no l ↦ absurd (false≢true (sym (past (omega arith)) ∙ h))
    ])

-- ---- the rule, fact by fact

-- m: fact g mattered after the step; u: its set condition was true; b: it has both entries; e: it is the fact asked about, which its set
-- condition (s) or its clear condition (c) may name. On the left as it is defined, on the right as the sets give it.
one-rule :
    (m u b e s c : Bool) →
    ((b && (s || c)) || (m && cond u s (e || (s || c)))) ≡ ((e && (m && not u)) || (((m || b) && s) || (((m && not u) || b) && c)))
one-rule m u b e s c = grind arith

-- ---- the sets

module _ (n : ℕ) (a : Action) (st m : List Bool) (size : length m ≡ n) where
  abbrev kept : ℕ → Bool
  kept g = get_or m g false && not (sets two a st g)

  past-kept : (f : ℕ) → n ≤ f → kept f ≡ false
  past-kept f l = let z : length m ≤ f = omega arith in rw (get_or-eq_default m false z)

  abbrev asked : ℕ → ℕ → Bool
  asked f g = ((get_or m g false || set_and_cleared a g) && set_names a g f) || ((kept g || set_and_cleared a g) && clear_names a g f)

  by-sets : (f : ℕ) → ((names a.precondition f || kept f) || some n (asked f)) ≡ matters_before a n st m f
  unfolding matters_before
  by-sets f =
      or_assoc (names a.precondition f) (kept f) (some n (asked f)) ∙
      ap (λ b. names a.precondition f || b)
      (ap (λ b. b || some n (asked f)) (sym (some_one n f kept (past-kept f))) ∙
      some_or n (λ g. eqb g f && kept g) (asked f) ∙
      some_below n _ _ (λ g l. sym (one-rule (get_or m g false) (sets two a st g) (set_and_cleared a g) (eqb g f) (set_names a g f) (clear_names a g f))) ∙
      sym (some_or n (λ g. set_and_cleared a g && (set_names a g f || clear_names a g f)) (λ g. get_or m g false && rests_on a st g f)))

pub matters-by-sets :
    (k : Mark) (n : ℕ) → n ≤ max_facts → (a : Action) (after keeps asked₀ asked₁ : FactSet) → GivesRest after k.set keeps →
    GivesUnion after k.both asked₀ → GivesUnion keeps k.both asked₁ → (more : FactSet) → NamesAsked n asked₀ asked₁ a.effects more →
    (pre : FactSet) → ((f : ℕ) → f < max_facts → has_fact pre f ≡ names a.precondition f) →
    (some' all' : FactSet) → GivesUnion pre keeps some' → GivesUnion some' more all' → MattersBefore k after n a all'
matters-by-sets k n few a after keeps asked₀ asked₁ K A₀ A₁ more M pre P some' all' S L st m X z h f l =
    let keep : (g : ℕ) → g < max_facts → has_fact keeps g ≡ kept n a st m z g = λ g b. K g b ∙ rw (h g b, X.set g b) refl in
    L f l ∙
    ap₂ ◌||◌ (S f l ∙ ap₂ ◌||◌ (P f l) (keep f l))
    (M f l ∙
    some_below n _ _
    (λ g b.
    let d : g < max_facts = omega arith in
    ap₂ ◌||◌ (ap (λ x. x && set_names a g f) (A₀ g d ∙ ap₂ ◌||◌ (h g d) (X.both g d))) (ap (λ x. x && clear_names a g f) (A₁ g d ∙ ap₂ ◌||◌ (keep g d) (X.both g d))))) ∙
    by-sets n a st m z f
