-- Working backward: a formula is known by the facts that it names, an action by those that matter before it, and so a run that is
-- reached by the start facts that are relevant to it. Assumes nothing.
use Rattle.model.proofs.Words.{◌≡◌, refl, sym, ap, ◌∙◌, Bool, true, false, ◌&&◌, ◌||◌, List, [], ◌∷◌, ℕ, zero, suc, ◌≤◌, ◌<◌, arith, length, get_or, get_or-eq_default, eq-eqb, Logic, two, Literal, fact, denial, Formula, Formulas, lit, all, any, none, more, eval, eval_all, eval_any, Effect, Action, condition_in, tabulate, exclusive, applicable, next, step, reached, goes_on, run, bit, state_of, Task, run_of, names, member_names, some, has_entry, set_and_cleared, set_names, clear_names, rests_on, matters_before, relevant, relevant_to, RestsOnRelevant}
use Rattle.model.proofs.Laws.Tabulate.{length-tabulate, get_d_tabulate}
use Rattle.model.proofs.Laws.Truth.{or-first, or-second}
use Rattle.model.proofs.Laws.Conflicts.{every-at, every-all}
use Rattle.model.proofs.Laws.Agreement.{at-end-reached}
use Rattle.model.proofs.Laws.Cover.{mod-of-block}
use Rattle.model.proofs.Laws.StateNumbers.{number-below, number-block, number_bit}

-- ---- one of n

pub some_at : (n : ℕ) (p : ℕ → Bool) (i : ℕ) → i < n → p i ≡ true → some n p ≡ true
unfolding some
some_at zero p i l e = absurd (omega arith)
some_at (suc n) p zero l e = or-first (p zero) _ e
some_at (suc n) p (suc i) l e = or-second (p zero) _ (some_at n (λ j. p (suc j)) i (omega arith) e)

-- ---- a formula is known by the facts that it names

module _ {X : Type 0} (L : Logic X) (c d : List X) where
  abbrev Same : ℕ → Type 0
  Same f = get_or c f L.never ≡ get_or d f L.never

  mutual
    unfolding eval names

    pub named-same : (φ : Formula) → ((f : ℕ) → names φ f ≡ true → Same f) → eval L c φ ≡ eval L d φ
    named-same (lit (fact f)) h = h f (eq-eqb f f refl)
    named-same (lit (denial f)) h = ap L.denied (h f (eq-eqb f f refl))
    named-same (all ms) h = all_same ms h
    named-same (any ms) h = any_same ms h

    all_same : (ms : Formulas) → ((f : ℕ) → member_names ms f ≡ true → Same f) → eval_all L c ms ≡ eval_all L d ms
    all_same none h = refl
    all_same (more m ms) h = grind (arith, (named-same m), (all_same ms))

    any_same : (ms : Formulas) → ((f : ℕ) → member_names ms f ≡ true → Same f) → eval_any L c ms ≡ eval_any L d ms
    any_same none h = refl
    any_same (more m ms) h = grind (arith, (named-same m), (any_same ms))

-- ---- entries

-- a literal without an entry has a condition that is never true
pub without-entry : (l : Literal) (es : List Effect) → has_entry l es ≡ false → (found : Formula) → condition_in found l es ≡ found
unfolding has_entry condition_in
without-entry l [] h found = refl
without-entry l (e ∷ es) h found = grind (arith, (without-entry l es))

-- ---- what matters before a step

module _ (n : ℕ) where
  -- the two states agree on the facts of which p says so
  abbrev pub Alike : (ℕ → Bool) → List Bool → List Bool → Type 0
  Alike p c d = (f : ℕ) → f < n → p f ≡ true → get_or c f false ≡ get_or d f false

  module _ (c d : List Bool) (size : length c ≡ n) (size' : length d ≡ n) where
    -- no fact is past the count
    formula-alike : (p : ℕ → Bool) → Alike p c d → (φ : Formula) → ((f : ℕ) → names φ f ≡ true → p f ≡ true) → eval two c φ ≡ eval two d φ
    formula-alike p h φ within = grind (arith, named-same, get_or-eq_default)

    module _ (a : Action) (after : List Bool) (h : Alike (matters_before a n c after) c d) where
      abbrev matters : ℕ → Bool
      matters = matters_before a n c after

      precondition-alike : eval two c a.precondition ≡ eval two d a.precondition
      unfolding matters_before
      precondition-alike = grind (arith, (formula-alike matters h))

      -- a fact with both entries
      module _ (g : ℕ) (l : g < n) (both : set_and_cleared a g ≡ true) where
        by_both : (f : ℕ) → (set_names a g f || clear_names a g f) ≡ true → matters f ≡ true
        unfolding matters_before
        by_both f e = grind (arith, (some_at n (λ k. set_and_cleared a k && (set_names a k f || clear_names a k f))))

        exclusive-alike : exclusive two a d g ≡ exclusive two a c g
        unfolding exclusive
        exclusive-alike = grind (arith, (formula-alike matters h), by_both)

      -- one without an entry is in no conflict
      exclusive-none : (g : ℕ) → set_and_cleared a g ≡ false → exclusive two a d g ≡ true
      unfolding exclusive eval
      exclusive-none g e = grind (arith, without-entry)

      exclusive-too : (g : ℕ) → g < n → exclusive two a c g ≡ true → exclusive two a d g ≡ true
      exclusive-too g l e = grind (arith, exclusive-alike, exclusive-none)

      pub applicable-too : applicable two n a c ≡ true → applicable two n a d ≡ true
      unfolding applicable
      applicable-too e = grind (arith, (every-all n (exclusive two a d)), (every-at n (exclusive two a c)), exclusive-too, precondition-alike)

      -- a fact that mattered after the step
      module _ (g : ℕ) (l : g < n) (mattered : get_or after g false ≡ true) where
        by-rest : (f : ℕ) → rests_on a c g f ≡ true → matters f ≡ true
        unfolding matters_before
        by-rest f e = grind (arith, (some_at n (λ k. get_or after k false && rests_on a c k f)))

        next-alike : next two a c g ≡ next two a d g
        unfolding next
        next-alike = grind (arith, (formula-alike matters h), by-rest)

  -- ---- a run that is reached

  pub step-length : (a : Action) (c : List Bool) → length (step two n a c) ≡ n
  unfolding step
  step-length a c = length-tabulate n (next two a c)

  step-alike :
      (a : Action) (after c d : List Bool) → length c ≡ n → length d ≡ n → Alike (matters_before a n c after) c d →
      Alike (λ f. get_or after f false) (step two n a c) (step two n a d)
  unfolding step
  step-alike a after c d z z' h f l e = grind (arith, get_d_tabulate, next-alike)

  -- what a set by a rule says
  by-rule : (p : ℕ → Bool) (c d : List Bool) → Alike (λ f. get_or (tabulate n p) f false) c d → Alike p c d
  by-rule p c d h f l e = h f l (get_d_tabulate n p f false l ∙ e)

  pub reached-alike :
      (goal : Formula) (plan : List Action) (i : ℕ) (c d : List Bool) → length c ≡ n → length d ≡ n →
      Alike (λ f. get_or (relevant n goal plan c) f false) c d → run two n goal plan i c ≡ reached → run two n goal plan i d ≡ reached
  unfolding run relevant goes_on
  reached-alike goal [] i c d z z' h e =
      rw (sym (formula-alike c d z z' (names goal) (by-rule (names goal) c d h) goal (λ f k. k)) ∙ at-end-reached _ e)
  reached-alike goal (a ∷ plan) i c d z z' h e =
      let k = by-rule (matters_before a n c (relevant n goal plan (step two n a c))) c d h in
      grind (arith, (applicable-too c d z z' a), (step-length a), (step-alike a), (reached-alike goal plan (suc i) (step two n a c) (step two n a d)))

-- ---- of a task, by numbers

pub relevant-length : (n : ℕ) (goal : Formula) (plan : List Action) (c : List Bool) → length (relevant n goal plan c) ≡ n
unfolding relevant
relevant-length n goal [] c = length-tabulate n (names goal)
relevant-length n goal (a ∷ plan) c = length-tabulate n (matters_before a n c (relevant n goal plan (step two n a c)))

module _ (T : Task) (n≤w : T.facts ≤ T.width) where
  abbrev start_of : ℕ → List Bool
  start_of s = state_of T.width T.facts s

  pub start-length : (s : ℕ) → length (start_of s) ≡ T.facts
  unfolding state_of
  start-length s = length-tabulate T.facts (bit T.width s)

  start-at : (s f : ℕ) → f < T.facts → get_or (start_of s) f false ≡ bit T.width s f
  unfolding state_of
  start-at s f l = get_d_tabulate T.facts (bit T.width s) f false l

  set-length : (s : ℕ) → length (relevant T.facts T.goal T.plan (start_of s)) ≡ T.facts
  set-length s = relevant-length T.facts T.goal T.plan (start_of s)

  pub rests-on : RestsOnRelevant T
  unfolding relevant_to run_of
  rests-on =
      record {
        is_state = λ s. grind (arith, set-length, number-below, mod-of-block, number-block);
        each_bit = λ s f l. grind (arith, number_bit, set-length);
        reached_too = λ s e t h. grind (arith, reached-alike, start-length, number_bit, set-length, start-at);
      }
