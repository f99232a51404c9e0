-- The operation that tells which start facts an outcome rests on: its answers by cases, and what they say. Assumes nothing.
use mathlib.Core.Path.{◌≡◌, refl, sym, ap, subst, ◌∙◌}
use mathlib.Core.Bool.{Bool, true, false, cond}
use mathlib.Core.Logic.{◌≢◌, inl, inr}
use mathlib.Core.List.{List, [], ◌∷◌, ◌++◌, map}
use Prim.Native.Nat.{ℕ, zero, suc, ◌+◌, ◌-◌, ◌*◌, ◌/◌, ◌≤◌, ◌<◌}
use native.Mathlib.Nat.{suc-mul, zero-mul, mul-div-le, mul-le-mul_right, min-le_left, min-le_right}
use native.Mathlib.Omega.{arith}
use native.Mathlib.Decide.{dec_lt}
use Rattle.std.specs.Prelude.{min}
use lib.ListN.{length, get_or, take, drop, replicate, length-append, length-map}
use Rattle.std.proofs.lemmas.List.{append_assoc, get_or-take, length-take, length-replicate}
use lib.Seq.{take_at, drop_at}
use lib.Dec.{ltb}
use borrow.Author.Tests.{lt-ltb, le-ltb}
use Rattle.model.specs.Answer as Answer
use Rattle.model.specs.Answer.{Answer, refused, answered}
use Rattle.model.specs.Kleene.{two}
use Rattle.model.specs.Action.{Action, step}
use Rattle.model.specs.Run.{Outcome, reached, missed, blocked}
use Rattle.model.specs.Case.{bit, flag, state_of, Task, run_of, IsState}
use Rattle.model.specs.Relevance.{states, rows, relevant_to, stretch, padded, run_states, run_rows, sparse_bytes, kept_states, sparse_rows, AgreeOn, Layout, every_row, fewer_rows}
use Rattle.model.specs.Operations.{Written, is_state_number, state_answer, run_read, when_reached, traced_back, reached_read, relevant_read}
use Rattle.model.specs.Guarantees.{Relevance, Fits}
use Rattle.model.proofs.Laws.Tabulate.{length-tabulate, get_d_tabulate}
use Rattle.model.proofs.Laws.Tasks.{state-tested, run-answers}
use Rattle.model.proofs.Laws.Relevance.{start-length, step-length, rests-on}

-- ---- the rows

-- the rows of states of n facts each
module _ (n : ℕ) where
  abbrev pub OfSize : List (List Bool) → Type 0
  OfSize cs = (i : ℕ) → i < length cs → length (get_or cs i []) ≡ n

  pub rows-size : (cs : List (List Bool)) → OfSize cs → length (rows cs) ≡ length cs * n
  unfolding rows
  rows-size [] h = sym (zero-mul n)
  rows-size (c ∷ cs) h =
      rw (length-append (map flag c) (rows cs), length-map c flag, h 0 (omega arith), rows-size cs (λ i l. h (suc i) (omega arith)))
      (omega (arith, suc-mul (length cs) n))

  pub states-size : (plan : List Action) (c : List Bool) → length c ≡ n → OfSize (states n plan c)
  unfolding states
  states-size [] c z zero l = z
  states-size [] c z (suc i) l = absurd (omega arith)
  states-size (a ∷ plan) c z zero l = z
  states-size (a ∷ plan) c z (suc i) l = states-size plan (step two n a c) (step-length n a c) i (omega arith)

  pub states-count : (plan : List Action) (c : List Bool) → length (states n plan c) ≡ suc (length plan)
  unfolding states
  states-count [] c = refl
  states-count (a ∷ plan) c = ap suc (states-count plan (step two n a c))

  pub rows-length : (plan : List Action) (c : List Bool) → length c ≡ n → length (rows (states n plan c)) ≡ suc (length plan) * n
  rows-length plan c z = rows-size (states n plan c) (states-size plan c z) ∙ ap (λ (k : ℕ). k * n) (states-count plan c)

pub rows-append : (cs ds : List (List Bool)) → rows (cs ++ ds) ≡ rows cs ++ rows ds
unfolding rows
rows-append [] ds = refl
rows-append (c ∷ cs) ds = ap (λ (x : List ℕ). map flag c ++ x) (rows-append cs ds) ∙ sym (append_assoc (map flag c) (rows cs) (rows ds))

-- ---- fewer rows

take-inside : {X : Type 0} (k : ℕ) (xs : List X) (i : ℕ) → i < length (take k xs) → (i < k) × (i < length xs)
take-inside k xs i l = let few : i < min k (length xs) = rw (← length-take k xs) l in (omega (arith, min-le_left k (length xs)), omega (arith, min-le_right k (length xs)))

padded-length : (n : ℕ) (bytes : List ℕ) → length bytes ≤ n → length (padded n bytes) ≡ n
padded-length n bytes l = rw (length-append bytes (replicate (n - length bytes) 0), length-replicate {A = ℕ} (n - length bytes) 0) (omega arith)

module _ (T : Task) (n≤w : T.facts ≤ T.width) (s : ℕ) where
  run-count : length (run_states T s) ≡ suc (length T.plan)
  run-count = states-count T.facts T.plan (state_of T.width T.facts s)

  run-size : OfSize T.facts (run_states T s)
  run-size = states-size T.facts T.plan (state_of T.width T.facts s) (start-length T n≤w s)

  abbrev kept-count : ℕ
  kept-count = length T.plan / stretch + 1

  kept-size : OfSize T.facts (kept_states T s)
  kept-size i l =
      let few : i < kept-count = omega (arith, length-tabulate kept-count (λ j. get_or (run_states T s) (stretch * j) [])) in
      rw (get_d_tabulate kept-count (λ j. get_or (run_states T s) (stretch * j) []) i [] few)
      (run-size (stretch * i) (omega (arith, run-count, mul-div-le (length T.plan) stretch)))

  pub kept-rows-length : length (rows (kept_states T s)) ≡ kept-count * T.facts
  kept-rows-length = rows-size T.facts (kept_states T s) kept-size ∙ ap (λ (x : ℕ). x * T.facts) (length-tabulate kept-count _)

  abbrev first-states : List (List Bool)
  first-states = take stretch (run_states T s)

  first-size : OfSize T.facts first-states
  first-size i l =
      let (few, inside) = take-inside stretch (run_states T s) i l in
      ap length (get_or-take stretch (run_states T s) i [] few) ∙ run-size i inside

  pub first-rows-length : length (rows first-states) ≤ stretch * T.facts
  first-rows-length = rw (rows-size T.facts first-states first-size, length-take stretch (run_states T s)) (mul-le-mul_right T.facts (min-le_left stretch (length (run_states T s))))

  pub sparse-rows-length : length (sparse_rows T s) ≡ sparse_bytes T
  unfolding sparse_rows
  sparse-rows-length = padded-length (sparse_bytes T) _ (rw (rows-append (kept_states T s) first-states, length-append (rows (kept_states T s)) (rows first-states), kept-rows-length) (omega (arith, first-rows-length)))

-- ---- both layouts keep to their need

abbrev pub Keeps : Task → Layout → Type 0
Keeps T L = (s : ℕ) → length (L.laid_out T s) ≡ L.need T

pub every-row-keeps : (T : Task) → T.facts ≤ T.width → Keeps T every_row
unfolding run_rows
every-row-keeps T n≤w s = rows-length T.facts T.plan (state_of T.width T.facts s) (start-length T n≤w s)

pub fewer-rows-keep : (T : Task) → T.facts ≤ T.width → Keeps T fewer_rows
fewer-rows-keep T n≤w s = sparse-rows-length T n≤w s

-- ---- the answers by cases

module _ (L : Layout) (T : Task) where
  -- what the call gives of the state s
  pub data Traced (s : ℕ) (work : List ℕ) : Written → Type 0 where
    no_state : (IsState T s → ⊥) → Traced s work (record { answer = refused 40 0; buffer = work })
    unreached : IsState T s → run_of T s ≢ reached → Traced s work (record { answer = refused 41 0; buffer = work })
    short : IsState T s → run_of T s ≡ reached → length work < L.need T → Traced s work (record { answer = refused 42 0; buffer = work })
    found :
        IsState T s → run_of T s ≡ reached → L.need T ≤ length work →
        Traced s work (record { answer = answered (relevant_to T s); buffer = L.laid_out T s ++ drop (L.need T) work })

  abbrev fitting : ℕ → Answer Task
  fitting room = cond (ltb room (L.need T)) (refused 42 0) (answered T)

  by-outcome :
      (s : ℕ) (work : List ℕ) → IsState T s → (o : Outcome) → run_of T s ≡ o →
      Traced s work (traced_back L s work (when_reached o (fitting (length work))))
  by-outcome s work st reached e =
      elim (dec_lt (length work) (L.need T)) [
        | yes l ↦ rw (lt-ltb (length work) (L.need T) l) (short st e l)
        | no l ↦ rw (le-ltb (length work) (L.need T) (omega arith)) (found st e (omega arith))
      ]
  by-outcome s work st missed e = unreached st (λ r. let z : ◌≡◌ {A = ℕ} 0 1 = cc in omega arith)
  by-outcome s work st (blocked p) e = unreached st (λ r. let z : ◌≡◌ {A = ℕ} 0 1 = cc in omega arith)

  pub traced : (s : ℕ) (work : List ℕ) → Traced s work (relevant_read L (answered T) s work)
  unfolding relevant_read reached_read Answer.◌>>=◌
  traced s work =
      elim (state-tested T s) [
        | inl y ↦ rw y.1 (by-outcome s work y.0 (run_of T s) refl)
        | inr y ↦ rw y.1 (no_state y.0)
      ]

  -- ---- what they say

  module _ (n≤w : T.facts ≤ T.width) (s : ℕ) (work : List ℕ) where
    is-no-state : (w : Written) → Traced s work w → (IsState T s → ⊥) → w.answer ≡ refused 40 0
    is-no-state w (no_state h) k = refl
    is-no-state w (unreached st h) k = absurd (k st)
    is-no-state w (short st e l) k = absurd (k st)
    is-no-state w (found st e l) k = absurd (k st)

    is-unreached : (w : Written) → Traced s work w → IsState T s → run_of T s ≢ reached → w.answer ≡ refused 41 0
    is-unreached w (no_state h) st k = absurd (h st)
    is-unreached w (unreached st h) _ k = refl
    is-unreached w (short st e l) _ k = absurd (k e)
    is-unreached w (found st e l) _ k = absurd (k e)

    is-short : (w : Written) → Traced s work w → IsState T s → run_of T s ≡ reached → length work < L.need T → w.answer ≡ refused 42 0
    is-short w (no_state h) st e l = absurd (h st)
    is-short w (unreached st h) _ e l = absurd (h e)
    is-short w (short st e l) _ _ _ = refl
    is-short w (found st e l) _ _ m = absurd (omega arith)

    is_found : (w : Written) → Traced s work w → IsState T s → run_of T s ≡ reached → L.need T ≤ length work → w.answer ≡ answered (relevant_to T s)
    is_found w (no_state h) st e l = absurd (h st)
    is_found w (unreached st h) _ e l = absurd (h e)
    is_found w (short st e l) _ _ m = absurd (omega arith)
    is_found w (found st e l) _ _ _ = refl

    -- a set that was answered
    pub record Told (m : ℕ) (buffer : List ℕ) : Type 0 where
      pub state : IsState T s
      pub is_reached : run_of T s ≡ reached
      pub fits : L.need T ≤ length work
      pub set : m ≡ relevant_to T s
      pub holds : buffer ≡ L.laid_out T s ++ drop (L.need T) work

    pub told : (w : Written) → Traced s work w → (m : ℕ) → w.answer ≡ answered m → Told m w.buffer
    told w (no_state h) m e = let z : ◌≡◌ {A = ℕ} 0 1 = cc in absurd (omega arith)
    told w (unreached st h) m e = let z : ◌≡◌ {A = ℕ} 0 1 = cc in absurd (omega arith)
    told w (short st r l) m e = let z : ◌≡◌ {A = ℕ} 0 1 = cc in absurd (omega arith)
    told w (found st r l) m e = record { state = st; is_reached = r; fits = l; set = cc; holds = refl }

  pub relevances : T.facts ≤ T.width → Keeps T L → Relevance T L
  relevances n≤w keeps =
      record {
        no_state = λ s work h. is-no-state n≤w s work _ (traced s work) h;
        not_reached = λ s work st h. is-unreached n≤w s work _ (traced s work) st h;
        short_work = λ s work st e l. is-short n≤w s work _ (traced s work) st e l;
        answers = λ s work st e l. is_found n≤w s work _ (traced s work) st e l;
        is_state = λ s work m e. subst (IsState T) (sym (told n≤w s work _ (traced s work) m e).set) ((rests-on T n≤w).is_state s);
        each_bit =
            λ s work m e f l.
            let o = told n≤w s work _ (traced s work) m e in
            ap (λ (x : ℕ). bit T.width x f) o.set ∙ (rests-on T n≤w).each_bit s f l;
        reached_too =
            λ s work m e t st h.
            let o = told n≤w s work _ (traced s work) m e in
            run-answers T t st ∙
            ap answered ((rests-on T n≤w).reached_too s o.is_reached t (subst (λ (x : ℕ). AgreeOn T x s t) o.set h));
        work_holds =
            λ s work m e.
            let o = told n≤w s work _ (traced s work) m e in
            (ap (take (L.need T)) o.holds ∙ take_at (L.laid_out T s) _ (L.need T) (keeps s), ap (drop (L.need T)) o.holds ∙ drop_at (L.laid_out T s) _ (L.need T) (keeps s));
      }

pub work-unchanged :
    (L : Layout) (R : Answer Task) (s : ℕ) (work : List ℕ) (n q : ℕ) → (relevant_read L R s work).answer ≡ refused n q → (relevant_read L R s work).buffer ≡ work
unfolding relevant_read
work-unchanged L R s work n q e = kept (reached_read L R s (length work)) e
  where
    kept : (x : Answer Task) → (traced_back L s work x).answer ≡ refused n q → (traced_back L s work x).buffer ≡ work
    kept (refused m p) e = refl
    kept (answered T) e = let z : ◌≡◌ {A = ℕ} 0 1 = cc in absurd (omega arith)

-- what the run refuses is refused alike, whatever the work area
pub run-first :
    (L : Layout) (R : Answer Task) (s : ℕ) (work : List ℕ) (n q : ℕ) → run_read R s ≡ refused n q → (relevant_read L R s work).answer ≡ refused n q
unfolding relevant_read reached_read run_read Answer.◌>>=◌
run-first L R s work n q e = by-task R e
  where
    rest : Task → Outcome → Answer Task
    rest T o = when_reached o (cond (ltb (length work) (L.need T)) (refused 42 0) (answered T))

    same : (m p : ℕ) → ◌≡◌ {A = Answer Outcome} (refused m p) (refused n q) → ◌≡◌ {A = Answer ℕ} (refused m p) (refused n q)
    same m p h = let a : m ≡ n = cc in let b : p ≡ q = cc in rw (a, b) refl

    by_state :
        (T : Task) (b : Bool) → cond b (answered (run_of T s)) (refused 40 0) ≡ refused n q →
        (traced_back L s work (Answer.◌>>=◌ (cond b (answered (run_of T s)) (refused 40 0)) (rest T))).answer ≡ refused n q
    by_state T true h = let z : ◌≡◌ {A = ℕ} 0 1 = cc in absurd (omega arith)
    by_state T false h = same 40 0 h

    by-task :
        (x : Answer Task) → Answer.◌>>=◌ x (λ T. state_answer T s) ≡ refused n q →
        (traced_back L s work (Answer.◌>>=◌ x (λ T. Answer.◌>>=◌ (state_answer T s) (rest T)))).answer ≡ refused n q
    by-task (refused m p) h = same m p h
    by-task (answered T) h = by_state T (is_state_number T s) h

-- ---- the same set from fewer rows

module _ (L M : Layout) (s : ℕ) (work few : List ℕ) where
  abbrev after : Layout → List ℕ → Task → Outcome → Answer Task
  after K w T o = when_reached o (cond (ltb (length w) (K.need T)) (refused 42 0) (answered T))

  abbrev tells : Layout → List ℕ → Answer Task → Answer ℕ
  tells K w x = (traced_back K s w x).answer

  of-run :
      (T : Task) → L.need T ≤ length work → M.need T ≤ length few → (x : Answer Outcome) →
      tells M few (Answer.◌>>=◌ x (after M few T)) ≡ tells L work (Answer.◌>>=◌ x (after L work T))
  unfolding Answer.◌>>=◌
  of-run T l m (refused n q) = refl
  of-run T l m (answered reached) = rw (le-ltb (length work) (L.need T) l, le-ltb (length few) (M.need T) m) refl
  of-run T l m (answered missed) = refl
  of-run T l m (answered (blocked p)) = refl

  pub answers-alike : (R : Answer Task) → Fits R L work → Fits R M few → (relevant_read M R s few).answer ≡ (relevant_read L R s work).answer
  unfolding relevant_read reached_read Answer.◌>>=◌
  answers-alike (refused n q) fits fits' = refl
  answers-alike (answered T) fits fits' = of-run T (fits T refl) (fits' T refl) (state_answer T s)
