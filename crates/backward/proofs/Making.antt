-- The state in lane 0 and its row, with an action's changes: its facts change one after another, and the others are what they were. Assumes nothing.
use Rattle.backward.proofs.Words.{◌≡◌, refl, sym, ap, ◌∙◌, Bool, true, false, not, ◌&&◌, ◌||◌, List, map, ℕ, ◌<◌, arith, length, get_or, set, length-set, get_or-set_same, get_or-set_other, ext_get_or, ne_eqb, inl, inr, false≢true, ℕ_discrete, map-set, max_facts, Kleene, is_yes, known, two, three, fact, denial, Formula, eval, Action, condition_of, clears, applicable, next, step, flag, lane_bit, some, ones, bit-ones, bit-zero, yes-exact, read_known, some_at, length-tabulate, get_d_tabulate, tabulate-below, and-true, and_both, or_cases, and_one, Rising, value_in, Cases, case_of, FactSet, Changes, has_fact, GivesCommon, FirstTaken, holds_now, IsChanges, Shows, changed, Makes, Taken}
use Rattle.backward.proofs.Entries.{some_of, condition-declared}
use Rattle.model.specs.Action.{sets}
use Rattle.model.proofs.Laws.Conflicts.{applicable-state}

-- ---- fact by fact

-- a word with a fact's value in every lane
pub lanes-yes : (b : Bool) → b ≡ true → value_in (lane_bit 0 ones) (lane_bit 0 ones) ≡ known b
lanes-yes b e = rw (bit-ones 0 (omega arith), e) refl

pub lanes-no : (b : Bool) → b ≡ false → value_in (lane_bit 0 0) (lane_bit 0 0) ≡ known b
lanes-no b e = rw (bit-zero 0, e) refl

-- a fact that is set or cleared is what it is set to
set-to : (s k x : Bool) → (s || k) ≡ true → s ≡ (s || (x && not k))
set-to s k x e = grind arith

module _ (x : Changes) (c : Cases) (row : List ℕ) where
  abbrev target : List Bool → ℕ → Bool
  target st g = has_fact x.set g || (get_or st g false && not (has_fact x.cleared g))

  -- the facts that are left are among the changed ones, and all others are as they will be
  pub record Making (left : FactSet) (d : Cases) (row' : List ℕ) : Type 0 where
    pub facts : d.facts ≡ c.facts
    pub size : length row' ≡ length row
    pub among : (g : ℕ) → g < max_facts → has_fact left g ≡ true → (has_fact x.set g || has_fact x.cleared g) ≡ true
    pub is :
        (st : List Bool) → Shows c st → row ≡ map flag st →
        (now' : List Bool) × (length now' ≡ c.facts) × Shows d now' × (row' ≡ map flag now') ×
        ((g : ℕ) → g < max_facts → has_fact left g ≡ false → get_or now' g false ≡ target st g)

  module _ (left left' : FactSet) (f : ℕ) (F : FirstTaken left f left') (d : Cases) (row' : List ℕ) (M : Making left d row') where
    pub making-fact : (has_fact x.set f || has_fact x.cleared f) ≡ true
    making-fact = M.among f F.few F.had

    was-left : (g : ℕ) → g < max_facts → (f ≡ g → ⊥) → has_fact left' g ≡ has_fact left g
    was-left g l n = F.left g l ∙ rw (ne_eqb f g n) (and_one (has_fact left g))

    pub making-next :
        f < c.facts → (d' : Cases) (w : ℕ) → value_in (lane_bit 0 w) (lane_bit 0 w) ≡ known (has_fact x.set f) → d'.facts ≡ d.facts →
        case_of d' 0 ≡ set (case_of d 0) f (value_in (lane_bit 0 w) (lane_bit 0 w)) → Making left' d' (set row' f (flag (has_fact x.set f)))
    making-next b d' w v same k =
        let yes' = has_fact x.set f in
        record {
          facts = same ∙ M.facts;
          size = length-set row' f (flag yes') ∙ M.size;
          among = λ g l h. M.among g l (and-true (has_fact left g) _ (sym (F.left g l) ∙ h)).0;
          is =
              λ st shown r.
              let (now', size, shows, held, agree) = M.is st shown r in (
                set now' f yes',
                length-set now' f yes' ∙ size,
                k ∙ rw (v, shows) (sym (map-set known now' f yes')),
                rw held (sym (map-set flag now' f yes')),
                λ g l h.
                    elim (ℕ_discrete g f) [
                      | yes i ↦ rw i (get_or-set_same now' f yes' false (omega (arith, size, b)) ∙ set-to yes' (has_fact x.cleared f) (get_or st f false) making-fact)
                      | no n ↦ get_or-set_other now' f g yes' false n ∙ agree g l (sym (was-left g l (λ e. n (sym e))) ∙ h)
                    ],
              );
        }

  pub making-ends : (left : FactSet) → ((g : ℕ) → g < max_facts → has_fact left g ≡ false) → (d : Cases) (row' : List ℕ) → Making left d row' → Makes x c row d row'
  making-ends left none d row' M st shown r =
      let (now', size, shows, held, agree) = M.is st shown r in
      let same : now' ≡ changed x c.facts st =
      ext_get_or false now' (changed x c.facts st) (size ∙ sym (length-tabulate c.facts (target st)))
      (λ g l.
      let b : g < c.facts = omega (arith, size) in
      let m : g < max_facts = omega (arith, c.few) in
      agree g m (none g m) ∙ sym (get_d_tabulate c.facts (target st) g false b))
      in
      rw (← same) (shows, held)

-- ---- an action by its changes

module _ (c : Cases) (a : Action) (st : List Bool) (shown : Shows c st) where
  pub holds-now : (φ : Formula) → holds_now c φ ≡ eval two st φ
  holds-now φ = ap (λ (v : List Kleene). is_yes (eval three v φ)) shown ∙ ap is_yes (read_known st φ) ∙ yes-exact (eval two st φ)

  refused : (applicable two c.facts a st ≡ true → ⊥) → applicable two c.facts a st ≡ false
  refused h = grind arith

  pub unmet : holds_now c a.precondition ≡ false → applicable two c.facts a st ≡ false
  unmet e = refused (λ h. false≢true (sym e ∙ holds-now a.precondition ∙ ((applicable-state c.facts a st).0 h).0))

module _ (c : Cases) (a : Action) (x : Changes) (X : IsChanges c a.effects x) (ok : Rising c.facts 0 a.effects) where
  -- only declared facts change
  pub changes-inside : (f : ℕ) → f < max_facts → (has_fact x.set f || has_fact x.cleared f) ≡ true → f < c.facts
  unfolding eval
  changes-inside f l e =
      elim (or_cases (has_fact x.set f) _ e) [
        | inl h ↦ condition-declared c.facts a.effects ok (holds_now c) refl (fact f) (sym (X.set f l) ∙ h)
        | inr h ↦ condition-declared c.facts a.effects ok (holds_now c) refl (denial f) (sym (X.cleared f l) ∙ h)
      ]

  module _ (st : List Bool) (shown : Shows c st) where
    set-is : (g : ℕ) → g < max_facts → has_fact x.set g ≡ sets two a st g
    set-is g l = X.set g l ∙ holds-now c a st shown (condition_of (fact g) a.effects)

    cleared-is : (g : ℕ) → g < max_facts → has_fact x.cleared g ≡ clears two a st g
    cleared-is g l = X.cleared g l ∙ holds-now c a st shown (condition_of (denial g) a.effects)

    stepped : changed x c.facts st ≡ step two c.facts a st
    unfolding step next
    stepped = tabulate-below c.facts _ _ (λ g l. let m : g < max_facts = omega (arith, c.few) in rw (set-is g m, cleared-is g m) refl)

    module _ (both : FactSet) (B : GivesCommon x.set x.cleared both) where
      pub conflicting : not (some max_facts (has_fact both)) ≡ false → applicable two c.facts a st ≡ false
      conflicting e =
          let any' : some max_facts (has_fact both) ≡ true = grind arith in
          let (g, l, h) = some_of max_facts (has_fact both) any' in
          let (s, k) = and-true (has_fact x.set g) _ (sym (B g l) ∙ h) in
          refused c a st shown (λ y. ((applicable-state c.facts a st).0 y).1 g (changes-inside g l (rw s refl)) (sym (set-is g l) ∙ s, sym (cleared-is g l) ∙ k))

      pub taken :
          holds_now c a.precondition ≡ true → not (some max_facts (has_fact both)) ≡ true → (row row' : List ℕ) (d : Cases) → Makes x c row d row' →
          row ≡ map flag st → (pair : FactSet) → GivesCommon x.may_set x.may_clear pair → Taken a c.facts st d row' (record { set = x.set; both = pair })
      taken p e row row' d M r pair P =
          let (shows, held) = M st shown r in
          record {
            applies =
                (applicable-state c.facts a st).1 (
                  sym (holds-now c a st shown a.precondition) ∙ p,
                  λ f l h.
                      let m : f < max_facts = omega (arith, c.few) in
                      let one : some max_facts (has_fact both) ≡ true =
                      some_at max_facts (has_fact both) f m (B f m ∙ and_both _ _ (set-is f m ∙ h.0) (cleared-is f m ∙ h.1))
                      in
                      false≢true (sym (ap not one) ∙ e),
                );
            shown = rw (← stepped) shows;
            own_row = rw (← stepped) held;
            mark = record { set = set-is; both = λ g l. P g l ∙ rw (X.may_set g l, X.may_clear g l) refl };
          }
