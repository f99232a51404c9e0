-- A run taken a step at a time: the state that it has come to, in lane 0 and as a row. Assumes nothing.
use Rattle.backward.proofs.Words.{◌≡◌, refl, sym, ap, subst, ◌∙◌, Bool, true, false, List, [], ◌∷◌, ◌++◌, map, append-nil, ℕ, suc, ◌+◌, ◌≤◌, ◌<◌, add-one, arith, length, take, drop, length-take, length-drop, length-append, drop_of_length-le, Option, Some, None, is_some, min, get_or, take-suc, take_at, ◌*◌, false≢true, max_facts, two, Formula, flag, Task, at_end, goes_on, reached, run, Action, applicable, action_at, states, rows, OfSize, rows-size, rows-append, states-size, states-count, sets-append, Cases, Mark, holds_now, IsMark, state_at, Shows, Taken, Takes, is_reached, Stops, TellsReached}
use Rattle.std.proofs.Common.{get_or-take}
use lib.Seq.{sets}
use Rattle.backward.proofs.{Making.holds-now, States.drop-action, States.state-first, States.state-next, States.shown-length}

-- ---- the rows of the first states

abbrev pub first_rows : ℕ → List Action → List Bool → ℕ → List ℕ
first_rows n plan st k = rows (take k (states n plan st))

module _ (n : ℕ) (plan : List Action) (st : List Bool) (z : length st ≡ n) where
  first-count : (k : ℕ) → length (take k (states n plan st)) ≡ min k (suc (length plan))
  first-count k = length-take k (states n plan st) ∙ ap (min k) (states-count n plan st)

  first-size : (k : ℕ) → OfSize n (take k (states n plan st))
  first-size k i l =
      let few : i < k = omega (arith, l, first-count k) in
      let inside : i < length (states n plan st) = omega (arith, l, first-count k, states-count n plan st) in
      ap length (get_or-take k (states n plan st) i [] few) ∙ states-size n plan st z i inside

  pub first-length : (k : ℕ) → length (first_rows n plan st k) ≡ min k (suc (length plan)) * n
  first-length k = rows-size n (take k (states n plan st)) (first-size k) ∙ ap (λ (m : ℕ). m * n) (first-count k)

  -- the row of the state before step i is written after those of the states before it
  pub row-written :
      (i at : ℕ) (before work row : List ℕ) → i ≤ length plan → at ≡ i * n → work ≡ sets before 0 (first_rows n plan st i) →
      row ≡ map flag (get_or (states n plan st) i []) → sets work at row ≡ sets before 0 (first_rows n plan st (suc i))
  unfolding rows
  row-written i at before work row few e so-far own =
      let own-state = get_or (states n plan st) i [] in
      let done = first_rows n plan st i in
      let inside : i < length (states n plan st) = omega (arith, few, states-count n plan st) in
      let all-of : min i (suc (length plan)) ≡ i = omega arith in
      let place : at ≡ 0 + length done = omega (arith, e, first-length i, ap (λ (m : ℕ). m * n) all-of) in
      rw (so-far, own, place) (sym (sets-append done (map flag own-state) before 0)) ∙
      ap (sets before 0)
      (sym (ap rows (take-suc (states n plan st) i [] inside) ∙ rows-append (take i (states n plan st)) (own-state ∷ []) ∙
      ap (λ (x : List ℕ). done ++ x) (append-nil (map flag own-state))))

-- ---- step by step

module _ (T : Task) (st : List Bool) where
  -- the state before step i is in lane 0 and in the row, and the run from st is what is left of it from there
  pub record Gone (i : ℕ) (d : Cases) (row : List ℕ) : Type 0 where
    pub shown : Shows d (state_at T st i)
    pub own_row : take T.facts row ≡ map flag (state_at T st i)
    pub goes_on :
        (goal : Formula) (more : List Action) (k : ℕ) →
        run two T.facts goal (T.plan ++ more) k st ≡ run two T.facts goal (drop i T.plan ++ more) (k + i) (state_at T st i)

  gone-begins : (c : Cases) (row : List ℕ) → Shows c st → take T.facts row ≡ map flag st → Gone 0 c row
  gone-begins c row shown own =
      let first = state-first T.facts T.plan st in
      record { shown = rw first shown; own_row = rw first own; goes_on = λ goal more k. let same : k + 0 ≡ k = omega arith in rw (same, first) refl }

  module _ (i : ℕ) (d : Cases) (row : List ℕ) (r : Gone i d row) where
    module _ (l : i < length T.plan) (same : d.facts ≡ T.facts) (e : Cases) (own-row : List ℕ) where
      -- what is left of the run begins with step i
      goes-on-with :
          (goal : Formula) (more : List Action) (k : ℕ) →
          run two T.facts goal (T.plan ++ more) k st ≡ run two T.facts goal (action_at T.plan i ∷ (drop (suc i) T.plan ++ more)) (k + i) (state_at T st i)
      goes-on-with goal more k =
          r.goes_on goal more k ∙ ap (λ (x : List Action). run two T.facts goal (x ++ more) (k + i) (state_at T st i)) (drop-action T.plan i l)

      gone-taken : (k : Mark) → Takes (action_at T.plan i) d (take T.facts row) e own-row (Some k) → Taken (action_at T.plan i) T.facts (state_at T st i) e own-row k
      gone-taken k X = subst (λ (m : ℕ). Taken (action_at T.plan i) m (state_at T st i) e own-row k) same (X (state_at T st i) r.shown r.own_row)

      gone-next : (row' : List ℕ) (k : Mark) → Takes (action_at T.plan i) d (take T.facts row) e own-row (Some k) → take T.facts row' ≡ own-row → Gone (i + 1) e row'
      unfolding run goes_on
      gone-next row' k X own-is =
          let t = gone-taken k X in
          let is = state-next T.facts T.plan st i l in
          record {
            shown = rw (add-one i, is) t.shown;
            own_row = own-is ∙ rw (add-one i, is) t.own_row;
            goes_on =
                λ goal more j.
                let index : j + (i + 1) ≡ suc (j + i) = omega arith in
                goes-on-with goal more j ∙ rw (t.applies, index, add-one i, is) refl;
          }

      gone-stops : Takes (action_at T.plan i) d (take T.facts row) e own-row None → Stops T st
      unfolding run goes_on
      gone-stops X goal more k =
          let so = subst (λ (m : ℕ). applicable two m (action_at T.plan i) (state_at T st i) ≡ false) same (X (state_at T st i) r.shown) in
          rw (goes-on-with goal more k, so) refl

    pub gone-through :
        i ≡ length T.plan → (goal : Formula) (more : List Action) (j : ℕ) →
        run two T.facts goal (T.plan ++ more) j st ≡ run two T.facts goal more (j + length T.plan) (state_at T st (length T.plan))
    gone-through k goal more j =
        let none : drop i T.plan ≡ [] = drop_of_length-le T.plan (omega arith) in
        r.goes_on goal more j ∙ ap (λ (x : List Action). run two T.facts goal (x ++ more) (j + i) (state_at T st i)) none ∙ rw k refl

-- ---- the whole run

end-is : (b : Bool) → is_reached (at_end b) ≡ b
end-is b = grind arith

module _ (T : Task) (st : List Bool) where
  abbrev is_reached_from : Bool
  is_reached_from = is_reached (run two T.facts T.goal T.plan 0 st)

  whole-plan : is_reached (run two T.facts T.goal (T.plan ++ []) 0 st) ≡ is_reached_from
  whole-plan = ap (λ (x : List Action). is_reached (run two T.facts T.goal x 0 st)) (append-nil T.plan)

  -- a step cannot be taken
  pub not-reached : Stops T st → false ≡ is_reached_from
  not-reached X = sym (X T.goal [] 0) ∙ whole-plan

  -- all steps are taken, and the goal decides
  pub goal-decides :
      (d : Cases) → Shows d (state_at T st (length T.plan)) →
      ((goal : Formula) (more : List Action) (i : ℕ) →
      run two T.facts goal (T.plan ++ more) i st ≡ run two T.facts goal more (i + length T.plan) (state_at T st (length T.plan))) →
      (b : Bool) → b ≡ holds_now d T.goal → b ≡ is_reached_from
  unfolding run
  goal-decides d shown through b e =
      e ∙ holds-now d (record { precondition = T.goal; effects = [] }) _ shown T.goal ∙ sym (ap is_reached (through T.goal [] 0) ∙ end-is _) ∙ whole-plan

-- the steps cannot all be taken from any state that lane 0 has
abbrev pub AllStop : Task → Cases → Type 0
AllStop T c = (st : List Bool) → length st ≡ T.facts → Shows c st → Stops T st

-- cases of another number of facts have no state of the task
pub others-stop : (T : Task) (c : Cases) → (c.facts ≡ T.facts → ⊥) → AllStop T c
others-stop T c other st z begin = absurd (other (sym (shown-length c st begin) ∙ z))

module _ (T : Task) (c : Cases) (X : AllStop T c) where
  pub stops-tells : TellsReached T c false
  stops-tells st z begin = not-reached T st (X st z begin)

  -- whatever a run that is reached would give
  pub stops-none : (P : List Bool → Type 0) → (st : List Bool) → length st ≡ T.facts → Shows c st → run two T.facts T.goal T.plan 0 st ≡ reached → P st
  stops-none P st z begin reaches = absurd (false≢true (stops-tells st z begin ∙ ap is_reached reaches))

-- ---- the row's room, in which it is the first n of so many bytes

pub own-size : (n : ℕ) (row : List ℕ) → n ≤ max_facts → length row ≡ max_facts → length (take n row) ≡ n
own-size n row few own = omega (arith, length-take n row)

module _ (c : Cases) (own-row row : List ℕ) (size : length own-row ≡ length (take c.facts row)) (own : length row ≡ max_facts) where
  room-size : length (own-row ++ drop c.facts row) ≡ max_facts
  room-size = length-append own-row (drop c.facts row) ∙ omega (arith, length-drop c.facts row, length-take c.facts row, size, own, c.few)

  own-is : (T : Task) → c.facts ≡ T.facts → take T.facts (own-row ++ drop c.facts row) ≡ own-row
  own-is T same = rw (← same) (take_at own-row _ c.facts (size ∙ own-size c.facts row c.few own))

-- ---- a loop over the steps, in which rows are written

module _ (T : Task) (c : Cases) (before : List ℕ) (put : List Bool → ℕ → List ℕ) where
  -- i steps are taken from the state st in lane 0, and the first rows are `put st i`
  pub record Stepping (i : ℕ) (d : Cases) (row work : List ℕ) : Type 0 where
    pub size : length work ≡ length before
    pub few : i ≤ length T.plan
    pub facts : d.facts ≡ T.facts
    pub own : length row ≡ max_facts
    pub gone : (st : List Bool) → length st ≡ T.facts → Shows c st → Gone T st i d row
    pub written : (st : List Bool) → length st ≡ T.facts → Shows c st → work ≡ sets before 0 (put st i)

  module _ (same : c.facts ≡ T.facts) where
    pub stepping-begins :
        (own-row room : List ℕ) → length own-row ≡ length (take c.facts room) → length room ≡ max_facts → ((st : List Bool) → Shows c st → own-row ≡ map flag st) →
        ((st : List Bool) → put st 0 ≡ []) → Stepping 0 c (own-row ++ drop c.facts room) before
    stepping-begins own-row room size own R none =
        record {
          size = refl;
          few = omega arith;
          facts = same;
          own = room-size c own-row room size own;
          gone = λ st z shown. gone-begins T st c _ shown (own-is c own-row room size own T same ∙ R st shown);
          written = λ st z shown. rw (none st) refl;
        }

    module _ (i : ℕ) (d : Cases) (row work : List ℕ) (S : Stepping i d row work) where
      -- the row of the state now
      pub row-now : (st : List Bool) → length st ≡ T.facts → Shows c st → take c.facts row ≡ map flag (state_at T st i)
      row-now st z begin = rw same (S.gone st z begin).own_row

      module _ (l : i < length T.plan) (a : Action) (is : a ≡ action_at T.plan i) (e : Cases) (own-row : List ℕ) where
        of-task : (r : Option Mark) → Takes a d (take c.facts row) e own-row r → Takes (action_at T.plan i) d (take T.facts row) e own-row r
        of-task r X =
            subst (λ (m : ℕ). Takes (action_at T.plan i) d (take m row) e own-row r) same (subst (λ (x : Action). Takes x d (take c.facts row) e own-row r) is X)

        module _ (k : Mark) (X : Takes a d (take c.facts row) e own-row (Some k)) where
          pub stepping-next :
              e.facts ≡ d.facts → length own-row ≡ length (take c.facts row) → (work' : List ℕ) → length work' ≡ length work →
              ((st : List Bool) → length st ≡ T.facts → Shows c st → work' ≡ sets before 0 (put st (i + 1))) → Stepping (i + 1) e (own-row ++ drop c.facts row) work'
          stepping-next facts size work' kept W =
              record {
                size = kept ∙ S.size;
                few = omega arith;
                facts = facts ∙ S.facts;
                own = room-size c own-row row size S.own;
                gone =
                    λ st z begin.
                    gone-next T st i d row (S.gone st z begin) l S.facts e own-row _ k (of-task (Some k) X) (own-is c own-row row size S.own T same);
                written = W;
              }

          pub stepping-mark : (st : List Bool) → length st ≡ T.facts → Shows c st → IsMark (action_at T.plan i) (state_at T st i) k
          stepping-mark st z begin = (gone-taken T st i d row (S.gone st z begin) l S.facts e own-row k (of-task (Some k) X)).mark

        pub stepping-stops : Takes a d (take c.facts row) e own-row None → AllStop T c
        stepping-stops X st z begin = gone-stops T st i d row (S.gone st z begin) l S.facts e own-row (of-task None X)

      module _ (l : length T.plan ≤ i) where
        pub all-steps : i ≡ length T.plan
        all-steps = omega (arith, S.few)

        pub last-shown : (st : List Bool) → length st ≡ T.facts → Shows c st → Shows d (state_at T st (length T.plan))
        last-shown st z begin = subst (λ (m : ℕ). Shows d (state_at T st m)) all-steps (S.gone st z begin).shown

        pub stepping-tells : (b : Bool) → b ≡ holds_now d T.goal → TellsReached T c b
        stepping-tells b e st z begin = goal-decides T st d (last-shown st z begin) (gone-through T st i d row (S.gone st z begin) all-steps) b e

-- a step that was taken has a mark, and one that was not has none
module _ (a : Action) (d e : Cases) (row own-row : List ℕ) where
  pub has-mark : (r : Option Mark) → is_some r ≡ true → Takes a d row e own-row r → (k : Mark) × Takes a d row e own-row (Some k)
  has-mark None n X = absurd (false≢true n)
  has-mark (Some k) n X = (k, X)

  pub has-none : (r : Option Mark) → is_some r ≡ false → Takes a d row e own-row r → Takes a d row e own-row None
  has-none None n X = X
  has-none (Some k) n X = absurd (false≢true (sym n))
