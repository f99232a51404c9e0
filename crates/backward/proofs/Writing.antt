-- The steps of a run: each state's row is written before its step is taken, and its mark after it. Assumes nothing.
use Rattle.backward.proofs.Words.{◌≡◌, sym, ap, ◌∙◌, Bool, true, false, List, ◌++◌, map, ℕ, suc, ◌+◌, ◌-◌, ◌*◌, ◌≤◌, ◌<◌, suc-mul, mul-le-mul_right, add-one, arith, length, get_or, set, take, take_all, drop, length-take, length-drop, length-set, get_or-set_same, get_or-set_other, ext_get_or, Some, ℕ_discrete, length-map, get_or-map, length-sets, is_yes, three, value_of, literal_of, flag, Task, Action, states, rows, action_at, states-count, part-put, Cases, case_of, Mark, holds_now, no_mark, IsMark, Marked, state_at, Shows, Takes, TakesSteps, TellsReached}
use Rattle.backward.proofs.States.{shown-length, shown-value}
use Rattle.backward.proofs.Going.{first_rows, row-written, goal-decides, gone-through, Stepping, row-now, stepping-next, stepping-mark, all-steps, last-shown}
use lib.Seq.{sets}
use borrow.Rule.Slice.PartMut.{put_mid}

-- ---- one row: the facts before f are written

pub record Putting (c : Cases) (f : ℕ) (row : List ℕ) : Type 0 where
  pub size : length row ≡ c.facts
  pub is : (st : List Bool) → Shows c st → (g : ℕ) → g < f → get_or row g 0 ≡ flag (get_or st g false)

pub putting-next : (c : Cases) (f : ℕ) (row : List ℕ) (b : Bool) → f < c.facts → f < 64 → b ≡ is_yes (value_of three (case_of c 0) (literal_of f)) → Putting c f row → Putting c (f + 1) (set row f (flag b))
putting-next c f row b l m e P =
    record {
      size = length-set row f (flag b) ∙ P.size;
      is =
          λ st h g k.
          elim (ℕ_discrete g f) [
            | yes i ↦ rw (i, e, shown-value c st f h m) (get_or-set_same row f _ 0 (omega (arith, P.size)))
            | no n ↦ get_or-set_other row f g (flag b) 0 n ∙ P.is st h g (omega arith)
          ];
    }

pub putting-ends : (c : Cases) (f : ℕ) (row : List ℕ) → f ≡ c.facts → Putting c f row → (st : List Bool) → Shows c st → row ≡ map flag st
putting-ends c f row e P st h =
    ext_get_or 0 row (map flag st) (P.size ∙ sym (length-map st flag ∙ shown-length c st h))
    (λ g l. P.is st h g (omega (arith, P.size)) ∙ sym (get_or-map flag st g false))

-- ---- the steps

module _ (T : Task) (c : Cases) (before : List ℕ) where
  -- i steps are taken, the rows of the states before them are written, up to `at`, and their marks
  pub record Writing (i at : ℕ) (d : Cases) (row work : List ℕ) (ms : List Mark) : Type 0 where
    pub steps : Stepping T c before (first_rows T.facts T.plan) i d row work
    pub place : at ≡ i * T.facts
    pub marked :
        (st : List Bool) → length st ≡ T.facts → Shows c st → (k : ℕ) → k < i → IsMark (action_at T.plan k) (state_at T st k) (get_or ms k no_mark)

  module _ (same : c.facts ≡ T.facts) (i at : ℕ) (d : Cases) (row work : List ℕ) (ms : List Mark) (W : Writing i at d row work ms) where
    pub writing-next :
        i < length T.plan → (a : Action) → a ≡ action_at T.plan i → (e : Cases) (own-row : List ℕ) (k : Mark) → Takes a d (take c.facts row) e own-row (Some k) →
        e.facts ≡ d.facts → length own-row ≡ length (take c.facts row) → (work' : List ℕ) → work' ≡ sets work at (take c.facts row) →
        (ms' : List Mark) → ((j : ℕ) → j < i → get_or ms' j no_mark ≡ get_or ms j no_mark) → get_or ms' i no_mark ≡ k →
        Writing (i + 1) (at + c.facts) e (own-row ++ drop c.facts row) work' ms'
    writing-next l a is e own-row k X facts size work' put ms' old new =
        record {
          steps =
              stepping-next T c before _ same i d row work W.steps l a is e own-row k X facts size work' (ap length put ∙ length-sets work at (take c.facts row))
              (λ st z begin.
              put ∙
              rw (add-one i)
              (row-written T.facts T.plan st z i at before work (take c.facts row) W.steps.few W.place (W.steps.written st z begin)
              (row-now T c before _ same i d row work W.steps st z begin)));
          place = rw (add-one i) (omega (arith, same, W.place, suc-mul i T.facts));
          marked =
              λ st z begin j b.
              elim (ℕ_discrete j i) [
                | yes s ↦ rw (s, new) (stepping-mark T c before _ same i d row work W.steps l a is e own-row k X st z begin)
                | no s ↦ rw (old j (omega (arith, b, s))) (W.marked st z begin j (omega (arith, b, s)))
              ];
        }

    pub writing-ends : length T.plan ≤ i → TakesSteps T c before d work ms true
    writing-ends l st z begin =
        let k = all-steps T c before _ same i d row work W.steps l in
        record {
          put = W.steps.written st z begin ∙ ap (λ (m : ℕ). sets before 0 (first_rows T.facts T.plan st m)) k;
          shown = last-shown T c before _ same i d row work W.steps l st z begin;
          marked = λ j b. W.marked st z begin j (omega (arith, b, k));
          goes_on = gone-through T st i d row (W.steps.gone st z begin) k;
        }

-- ---- the run

module _ (T : Task) (c d : Cases) (before work : List ℕ) (ms : List Mark) (X : TakesSteps T c before d work ms true) where
  pub tells : (b : Bool) → b ≡ holds_now d T.goal → TellsReached T c b
  tells b e st z begin = let A = X st z begin in goal-decides T st d A.shown A.goes_on b e

  -- with the row of the last state the states of the run are all put
  pub puts-all :
      (last : ℕ) → last ≡ length T.plan * T.facts → (row : List ℕ) → ((st : List Bool) → Shows d st → row ≡ map flag st) →
      (work' : List ℕ) → work' ≡ sets work last row → (st : List Bool) → length st ≡ T.facts → Shows c st →
      (work' ≡ sets before 0 (rows (states T.facts T.plan st))) × Marked T st ms
  puts-all last at row R work' put st z begin =
      let A = X st z begin in
      let all-states = states T.facts T.plan st in
      let few : length all-states ≤ suc (length T.plan) = omega (arith, states-count T.facts T.plan st) in (
        put ∙ row-written T.facts T.plan st z (length T.plan) last before work row (omega arith) at A.put (R _ A.shown) ∙
            ap (λ (x : List (List Bool)). sets before 0 (rows x)) (take_all _ all-states few),
        A.marked,
      )

-- ---- a row's place

pub row-inside : (i len n at size : ℕ) → i < len → at ≡ i * n → len * n ≤ size → at + n ≤ size
row-inside i len n at size few e room = omega (arith, e, suc-mul i n, mul-le-mul_right n few)

pub part-length : (at n : ℕ) (work : List ℕ) → at + n ≤ length work → length (take (at + n - at) (drop at work)) ≡ n
part-length at n work h = omega (arith, length-take (at + n - at) (drop at work), length-drop at work)

-- a row that is written there
pub row-put :
    (at n : ℕ) (work row : List ℕ) → at + n ≤ length work → length row ≡ n → put_mid at (at + n - at) work row ≡ sets work at row
row-put at n work row h z =
    let k : at + n - at ≡ n = omega arith in
    ap (λ (m : ℕ). put_mid at m work row) k ∙ part-put at n work row h z
