-- Steps gone through backward, by their marks. Assumes nothing.
use Rattle.backward.proofs.Words.{◌≡◌, refl, sym, ap, subst, ◌∙◌, Bool, true, false, cond, ◌&&◌, ◌||◌, inl, inr, List, [], ◌∷◌, ℕ, suc, ◌≤◌, ◌<◌, arith, length, get_or, drop, drop_of_length-le, eqb, eqb-true, dec_lt, max_facts, two, Literal, fact, denial, Formula, Action, condition_of, tabulate, step, Task, names, set_and_cleared, set_names, clear_names, rests_on, exclusion_names, matters_before, relevant, action_at, length-tabulate, get_d_tabulate, getD-tabulate-past, or_cases, and-true, FactSet, Mark, has_fact, HasFacts, no_mark, Marked, MattersBefore, state_at, matter_before, WithinAction, WithinTask, TracesBack}
use Rattle.model.specs.Action.{sets}
use Rattle.backward.proofs.{Entries.some_of, States.state-next, States.state-first, States.drop-action}

-- ---- no fact past the declared ones matters

module _ (n : ℕ) (a : Action) (within : WithinAction n a) (st m : List Bool) (f : ℕ) where
  condition-within : (l : Literal) → names (condition_of l a.effects) f ≡ true → f < n
  condition-within l e = (within f).1 l e

  both-within : (g : ℕ) → (set_names a g f || clear_names a g f) ≡ true → f < n
  both-within g e = elim (or_cases (set_names a g f) _ e) [ inl h ↦ condition-within (fact g) h | inr h ↦ condition-within (denial g) h ]

  rests-within : (g : ℕ) → g < n → (b : Bool) → cond b (set_names a g f) (eqb g f || (set_names a g f || clear_names a g f)) ≡ true → f < n
  rests-within g l true e = condition-within (fact g) e
  rests-within g l false e = elim (or_cases (eqb g f) _ e) [ inl h ↦ omega (arith, eqb-true g f h) | inr h ↦ both-within g h ]

  matters-within : matters_before a n st m f ≡ true → f < n
  unfolding matters_before
  matters-within e =
      elim (or_cases (names a.precondition f) _ e) [
        | inl h ↦ (within f).0 h
        | inr h ↦
            elim (or_cases (exclusion_names a n f) _ h) [
              | inl k ↦
                  let (g, l, x) = some_of n (λ g. set_and_cleared a g && (set_names a g f || clear_names a g f)) k in
                  both-within g (and-true (set_and_cleared a g) _ x).1
              | inr k ↦
                  let (g, l, x) = some_of n (λ g. get_or m g false && rests_on a st g f) k in
                  rests-within g l (sets two a st g) (and-true (get_or m g false) _ x).1
            ]
      ]

-- a set by a rule that says so of declared facts only
pub by-rule : (n : ℕ) (s : FactSet) (p : ℕ → Bool) → ((f : ℕ) → f < max_facts → has_fact s f ≡ p f) → ((f : ℕ) → p f ≡ true → f < n) → HasFacts s (tabulate n p)
by-rule n s p h within f l =
    h f l ∙
    elim (dec_lt f n) [
      | yes m ↦ sym (get_d_tabulate n p f false m)
      | no m ↦ let out : p f ≡ false = grind (arith, within f) in out ∙ sym (getD-tabulate-past n p f false (omega arith))
    ]

-- ---- step by step

pub matter-length : (n : ℕ) (plan : List Action) (m st : List Bool) → length m ≡ n → length (matter_before n plan m st) ≡ n
unfolding matter_before
matter-length n [] m st z = z
matter-length n (a ∷ plan) m st z = length-tabulate n _

-- from the goal on
pub relevant-is : (n : ℕ) (goal : Formula) (plan : List Action) (st : List Bool) → relevant n goal plan st ≡ matter_before n plan (tabulate n (names goal)) st
unfolding relevant matter_before
relevant-is n goal [] st = refl
relevant-is n goal (a ∷ plan) st = ap (λ (m : List Bool). tabulate n (matters_before a n st m)) (relevant-is n goal plan (step two n a st))

module _ (T : Task) (ms : List Mark) (after : FactSet) where
  -- the set has the facts that matter before the steps from number i on
  pub record Tracing (i : ℕ) (set : FactSet) : Type 0 where
    pub few : i ≤ length T.plan
    pub is :
        WithinTask T → (st : List Bool) → length st ≡ T.facts → Marked T st ms → (m : List Bool) → length m ≡ T.facts → HasFacts after m →
        HasFacts set (matter_before T.facts (drop i T.plan) m (state_at T st i))

  pub tracing-begins : (i : ℕ) → length T.plan ≡ i → Tracing i after
  unfolding matter_before
  tracing-begins i k =
      let none : length T.plan ≤ i = omega arith in
      record { few = omega arith; is = λ W st z M m y h. rw (drop_of_length-le T.plan none) h }

  pub tracing-next :
      (i : ℕ) (set r : FactSet) → Tracing (suc i) set → MattersBefore (get_or ms i no_mark) set T.facts (action_at T.plan i) r → Tracing i r
  unfolding matter_before
  tracing-next i set r R B =
      record {
        few = omega (arith, R.few);
        is =
            λ W st z M m y h.
            let l : i < length T.plan = omega (arith, R.few) in
            let n = T.facts in
            let a = action_at T.plan i in
            let now' = state_at T st i in
            let later = matter_before n (drop (suc i) T.plan) m (state_at T st (suc i)) in
            let o = B now' later (M i l) (matter-length n (drop (suc i) T.plan) m _ y) (R.is W st z M m y h) in
            let is : tabulate n (matters_before a n now' later) ≡ matter_before n (drop i T.plan) m now' =
            ap (λ (s : List Bool). tabulate n (matters_before a n now' (matter_before n (drop (suc i) T.plan) m s))) (state-next n T.plan st i l) ∙
            sym (ap (λ (s : List Action). matter_before n s m now') (drop-action T.plan i l))
            in
            subst (HasFacts r) is (by-rule n r (matters_before a n now' later) o (matters-within n a (W.actions i l) now' later));
      }

  pub tracing-ends : (i : ℕ) (set : FactSet) → Tracing i set → i ≡ 0 → TracesBack T ms after set
  tracing-ends i set R e W st z M m y h =
      subst (HasFacts set)
      (ap (λ (k : ℕ). matter_before T.facts (drop k T.plan) m (state_at T st k)) e ∙ ap (matter_before T.facts T.plan m) (state-first T.facts T.plan st))
      (R.is W st z M m y h)
