-- The loops over an action's effects: what is so of one of them, fact by fact, as a set that grows. Assumes nothing.
use Rattle.backward.proofs.Words.{◌≡◌, refl, sym, ap, ◌∙◌, Bool, true, false, ◌&&◌, ◌||◌, List, [], ◌∷◌, ℕ, ◌<◌, max_facts, fact, denial, eval, Effect, same_literal, names, or-none, Rising, Cases, FactSet, Changes, has_fact, GivesUnion, holds_now, asks, AddsEffect, IsChanges, NamesAsked}
use Rattle.backward.proofs.{Sets.set-none, Sets.grown, Sets.grown-none, Entries.some_entry, Entries.entry_has, Entries.entry-condition, Entries.entries-by-fact}

-- ---- what is so of an effect is so of those met, or of those left

abbrev pub Left : FactSet → (ℕ → Effect → Bool) → List Effect → List Effect → Type 0
Left s p es left = (f : ℕ) → f < max_facts → some_entry (p f) es ≡ (has_fact s f || some_entry (p f) left)

left-begins : (p : ℕ → Effect → Bool) (es left : List Effect) → left ≡ es → Left (record { word = 0 }) p es left
left-begins p es left e f l = rw (set-none f, e) refl

left-next :
    (s s' : FactSet) (p : ℕ → Effect → Bool) (es left rest : List Effect) (x : Effect) → left ≡ x ∷ rest →
    ((f : ℕ) → f < max_facts → has_fact s' f ≡ (has_fact s f || p f x)) → Left s p es left → Left s' p es rest
unfolding some_entry
left-next s s' p es left rest x e h L f l =
    grown (has_fact s f) (p f x) (some_entry (p f) rest) (L f l) (ap (some_entry (p f)) e) (h f l)

left-ends : (s : FactSet) (p : ℕ → Effect → Bool) (es left : List Effect) → left ≡ [] → Left s p es left → (f : ℕ) → f < max_facts → has_fact s f ≡ some_entry (p f) es
unfolding some_entry
left-ends s p es left e L f l = grown-none (has_fact s f) (L f l) (ap (some_entry (p f)) e)

-- ---- the sets of changes

abbrev setting : ℕ → Effect → Bool
setting g x = same_literal (fact g) x.literal

abbrev clearing : ℕ → Effect → Bool
clearing g x = same_literal (denial g) x.literal

module _ (c : Cases) (es : List Effect) where
  abbrev setting_now : ℕ → Effect → Bool
  setting_now g x = same_literal (fact g) x.literal && holds_now c x.condition

  abbrev clearing_now : ℕ → Effect → Bool
  clearing_now g x = same_literal (denial g) x.literal && holds_now c x.condition

  pub record Changing (r : Changes) (left : List Effect) : Type 0 where
    pub may_set : Left r.may_set setting es left
    pub may_clear : Left r.may_clear clearing es left
    pub set : Left r.set setting_now es left
    pub cleared : Left r.cleared clearing_now es left

  abbrev no_changes : Changes
  no_changes = record { may_set = record { word = 0 }; may_clear = record { word = 0 }; set = record { word = 0 }; cleared = record { word = 0 } }

  pub changing-begins : (left : List Effect) → left ≡ es → Changing no_changes left
  changing-begins left e =
      record {
        may_set = left-begins setting es left e;
        may_clear = left-begins clearing es left e;
        set = left-begins setting_now es left e;
        cleared = left-begins clearing_now es left e;
      }

  pub changing-next : (r r' : Changes) (left rest : List Effect) (x : Effect) → left ≡ x ∷ rest → AddsEffect c r x r' → Changing r left → Changing r' rest
  changing-next r r' left rest x e A C =
      record {
        may_set = left-next r.may_set r'.may_set setting es left rest x e A.may_set C.may_set;
        may_clear = left-next r.may_clear r'.may_clear clearing es left rest x e A.may_clear C.may_clear;
        set = left-next r.set r'.set setting_now es left rest x e A.set C.set;
        cleared = left-next r.cleared r'.cleared clearing_now es left rest x e A.cleared C.cleared;
      }

  pub changing-ends : (facts : ℕ) → Rising facts 0 es → (r : Changes) (left : List Effect) → left ≡ [] → Changing r left → IsChanges c es r
  unfolding eval
  changing-ends facts ok r left e C =
      let now' = entry-condition facts es ok (holds_now c) refl in
      record {
        may_set = λ g l. left-ends r.may_set setting es left e C.may_set g l ∙ entry_has (fact g) es;
        may_clear = λ g l. left-ends r.may_clear clearing es left e C.may_clear g l ∙ entry_has (denial g) es;
        set = λ g l. left-ends r.set setting_now es left e C.set g l ∙ now' (fact g);
        cleared = λ g l. left-ends r.cleared clearing_now es left e C.cleared g l ∙ now' (denial g);
      }

-- ---- gathering what the conditions name

module _ (set cleared : FactSet) where
  abbrev naming : ℕ → Effect → Bool
  naming f x = asks set cleared x.literal && names x.condition f

  abbrev pub Gathering : FactSet → List Effect → List Effect → Type 0
  Gathering s es left = Left s naming es left

  pub gathering-begins : (es left : List Effect) → left ≡ es → Gathering (record { word = 0 }) es left
  gathering-begins es left e = left-begins naming es left e

  pub gathering-asked :
      (s s' named : FactSet) (es left rest : List Effect) (x : Effect) → left ≡ x ∷ rest → asks set cleared x.literal ≡ true →
      ((f : ℕ) → f < max_facts → has_fact named f ≡ names x.condition f) → GivesUnion s named s' → Gathering s es left → Gathering s' es rest
  gathering-asked s s' named es left rest x e a n u L =
      left-next s s' naming es left rest x e (λ f l. u f l ∙ ap (λ b. has_fact s f || b) (n f l ∙ rw a refl)) L

  pub gathering-passed :
      (s : FactSet) (es left rest : List Effect) (x : Effect) → left ≡ x ∷ rest → asks set cleared x.literal ≡ false → Gathering s es left → Gathering s es rest
  gathering-passed s es left rest x e a L = left-next s s naming es left rest x e (λ f l. rw a (sym (or-none (has_fact s f)))) L

  pub gathering-ends : (facts : ℕ) (s : FactSet) (es left : List Effect) → Rising facts 0 es → left ≡ [] → Gathering s es left → NamesAsked facts set cleared es s
  unfolding names
  gathering-ends facts s es left ok e L f l =
      left-ends s naming es left e L f l ∙ entries-by-fact facts es ok (λ φ. names φ f) refl (asks set cleared)
