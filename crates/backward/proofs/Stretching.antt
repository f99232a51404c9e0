-- A run gone through backward, a stretch at a time. Assumes nothing.
use Rattle.backward.proofs.Words.{◌≡◌, refl, sym, ap, ap₂, subst, ◌∙◌, Bool, true, false, List, [], ◌∷◌, ◌++◌, map, append_assoc, ℕ, zero, suc, ◌+◌, ◌-◌, ◌*◌, ◌/◌, ◌≤◌, ◌<◌, mul-le-mul_right, suc-mul, zero-mul, arith, min, length, get_or, take, drop, replicate, length-take, length-drop, drop_of_length-le, take_at, take-add, take_all, drop-drop, false≢true, mul-div-le, min-le_left, dec_le, length-map, sets-eq, drop-append-add, take-append-drop, drop-replicate, get_or-drop, take-map, drop-map, max_facts, two, Action, tabulate, reached, run, flag, Task, action_at, names, states, rows, stretch, padded, length-tabulate, get_d_tabulate, OfSize, states-count, problem, task, plan-length, Cases, FactSet, Mark, has_fact, HasFacts, Marked, state_at, matter_before, WithinAction, WithinTask, TracesBack, Shows, TakesSteps, is_reached, kept_of, part, ShowsRow, TakesPart, KeptIn, TracesStretches}
use Rattle.backward.proofs.{Keeping.kept-size, Going.first-length}
use Rattle.backward.proofs.Splitting.{state_after, after-none, after-both, after-length, state-is, states-begin, goes-on, matter-both, matter-none}
use lib.Seq.{sets}
use Rattle.std.proofs.lemmas.List.{get_or-take}
use Rattle.model.specs.Operations.{task_of}
use Rattle.blocks.specs.declared.task.Task as tasks
use Rattle.backward.proofs.{Tracing.by-rule, Tracing.relevant-is, Tracing.matter-length, Writing.puts-all}

-- ---- the steps of a part

module _ (T : Task) (row before : List ℕ) (c : Cases) (shows : ShowsRow row c) where
  -- one cannot be taken
  pub part-stops : (d : Cases) (work : List ℕ) (ms : List Mark) → TakesSteps T c before d work ms false → (work' : List ℕ) → TakesPart T row before work' ms
  part-stops d work ms X work' st z r goal more i reaches =
      absurd (false≢true (sym (X st z (shows st r) goal more i) ∙ ap is_reached reaches))

  -- all are, and are 16
  pub part-whole : (d : Cases) (work : List ℕ) (ms : List Mark) → TakesSteps T c before d work ms true → length T.plan ≡ stretch → TakesPart T row before work ms
  part-whole d work ms X k st z r goal more i reaches =
      let A = X st z (shows st r) in
      (A.put ∙ ap (λ (m : ℕ). sets before 0 (rows (take m (states T.facts T.plan st)))) k, A.marked)

  -- all are, and are fewer: then the last state has a row too
  pub part-short :
      (d : Cases) (work : List ℕ) (ms : List Mark) → TakesSteps T c before d work ms true → length T.plan < stretch →
      (last : ℕ) → last ≡ length T.plan * T.facts → (own : List ℕ) → ((st : List Bool) → Shows d st → own ≡ map flag st) →
      (work' : List ℕ) → work' ≡ sets work last own → TakesPart T row before work' ms
  part-short d work ms X k last at own R work' put st z r goal more i reaches =
      let (all', marked) = puts-all T c d before work ms X last at own R work' put st z (shows st r) in
      let few : length (states T.facts T.plan st) ≤ stretch = omega (arith, states-count T.facts T.plan st, k) in
      (all' ∙ ap (λ (cs : List (List Bool)). sets before 0 (rows cs)) (sym (take_all stretch (states T.facts T.plan st) few)), marked)

-- ---- a stretch

-- a task of some of its steps
pub part-steps : (t : tasks.Task) (a b : ℕ) → task_of t.problem.now.limits (problem t.problem.now) (take (b - a) (drop a t.steps.now)) ≡ part (task t) a b
unfolding task_of
part-steps t a b =
    let p = problem t.problem.now in
    let at = action_at p.actions in
    ap (λ (plan : List Action). record { width = t.problem.now.limits.width; facts = p.facts; initial = p.initial; goal = p.goal; plan = plan })
    (sym (ap (take (b - a)) (drop-map at a t.steps.now) ∙ take-map at (b - a) (drop a t.steps.now)))

-- the steps of the stretch from step a on, which ends at b
pub stretch-plan : (plan : List Action) (a b : ℕ) → a ≤ length plan → b ≡ min (length plan) (a + stretch) → take (b - a) (drop a plan) ≡ take stretch (drop a plan)
stretch-plan plan a b l e =
    elim (dec_le (a + stretch) (length plan)) [
      | yes h ↦ let k : b - a ≡ stretch = omega (arith, e, h) in rw k refl
      | no h ↦
          let k : length (drop a plan) ≤ b - a = omega (arith, e, h, length-drop a plan) in
          rw (take_all (b - a) (drop a plan) k, take_all stretch (drop a plan) (omega (arith, h, length-drop a plan))) refl
    ]

-- a part is of one stretch
pub stretch-short : (t p : tasks.Task) (a b : ℕ) → task p ≡ part (task t) a b → b ≡ min (length t.steps.now) (a + stretch) → length p.steps.now ≤ stretch
stretch-short t p a b e to =
    let count = ap (λ (T : Task). length T.plan) e ∙ length-take (b - a) (drop a (task t).plan) in
    omega (arith, count, plan-length p, to)

-- a part of a task names declared facts only, as the task does
part-within : (T : Task) (a b : ℕ) → a ≤ b → b ≤ length T.plan → WithinTask T → WithinTask (part T a b)
unfolding action_at
part-within T a b l m W =
    record {
      goal = W.goal;
      actions =
          λ i k.
          let few : i < b - a = omega (arith, k, length-take (b - a) (drop a T.plan)) in
          let inside : a + i < length T.plan = omega (arith, few, m) in
          let same : action_at (take (b - a) (drop a T.plan)) i ≡ action_at T.plan (a + i) =
          get_or-take (b - a) (drop a T.plan) i _ few ∙ get_or-drop a T.plan i _
          in
          subst (WithinAction T.facts) (sym same) (W.actions (a + i) inside);
    }

-- the rows of a run's first 16 states
module _ (n : ℕ) (plan : List Action) (st : List Bool) (z : length st ≡ n) where
  abbrev first-states : List (List Bool)
  first-states = take stretch (states n plan st)

  -- they are written over rows that had been written, where they fill them all, or else over zeros
  pub first-put :
      (before : List ℕ) → length before ≡ stretch * n → (length plan < stretch → before ≡ replicate (stretch * n) 0) →
      sets before 0 (rows first-states) ≡ padded (stretch * n) (rows first-states)
  first-put before size blank =
      let few = mul-le-mul_right n (min-le_left stretch (suc (length plan))) in
      let fits : 0 + length (rows first-states) ≤ length before = omega (arith, first-length n plan st z stretch, size, few) in
      let count : 0 + length (rows first-states) ≡ length (rows first-states) = omega arith in
      sets-eq (rows first-states) before 0 fits ∙ ap (λ (m : ℕ). rows first-states ++ drop m before) count ∙
      ap (λ (x : List ℕ). rows first-states ++ x)
      (elim (dec_le stretch (length plan)) [
        | yes h ↦
            let most : min stretch (suc (length plan)) ≡ stretch = omega (arith, h) in
            let whole = first-length n plan st z stretch ∙ ap (λ (m : ℕ). m * n) most in
            let none : stretch * n - length (rows first-states) ≡ 0 = omega (arith, whole) in
            let all-of : length before ≤ length (rows first-states) = omega (arith, whole, size) in
            rw (drop_of_length-le before all-of, none) refl
        | no h ↦ rw (blank (omega (arith, h))) (drop-replicate (length (rows first-states)) (stretch * n) 0)
      ])

-- ---- one stretch after another, the last one first

module _ (T : Task) (kept before : List ℕ) where
  abbrev goal-facts : List Bool
  goal-facts = tabulate T.facts (names T.goal)

  abbrev left-from : ℕ → List Action
  left-from s = drop (stretch * s) T.plan

  abbrev state-before : ℕ → List Bool → List Bool
  state-before s st = state_after T.facts (take (stretch * s) T.plan) st

  -- the stretches from number s on are gone through: the set has what matters before them
  pub record Going (s : ℕ) (set : FactSet) (work : List ℕ) : Type 0 where
    pub few : s ≤ length T.plan / stretch + 1
    pub size : length work ≡ length before
    pub untouched : s ≡ length T.plan / stretch + 1 → work ≡ before
    pub is :
        WithinTask T → (st : List Bool) → length st ≡ T.facts → KeptIn kept T st → run two T.facts T.goal T.plan 0 st ≡ reached →
        HasFacts set (matter_before T.facts (left-from s) goal-facts (state-before s st))
    pub first :
        s ≡ 0 → (st : List Bool) → length st ≡ T.facts → KeptIn kept T st → run two T.facts T.goal T.plan 0 st ≡ reached →
        before ≡ replicate (stretch * T.facts) 0 → work ≡ padded (stretch * T.facts) (rows (take stretch (states T.facts T.plan st)))

  pub going-begins : (s : ℕ) (set : FactSet) → length T.plan / stretch + 1 ≡ s → ((f : ℕ) → f < max_facts → has_fact set f ≡ names T.goal f) → Going s set before
  going-begins s set e named =
      let none : length T.plan ≤ stretch * s = omega (arith, e) in
      record {
        few = omega (arith, e);
        size = refl;
        untouched = λ k. refl;
        is =
            λ W st z K reaches.
            rw (drop_of_length-le T.plan none, matter-none T.facts goal-facts (state-before s st))
            (by-rule T.facts set (names T.goal) named W.goal);
        first = λ k. absurd (omega (arith, e, k));
      }

  module _
      (s : ℕ) (set : FactSet) (work : List ℕ) (G : Going (suc s) set work) (row : List ℕ) (own : row ≡ take T.facts (drop (s * T.facts) kept))
      (a b : ℕ) (from : a ≡ stretch * s) (to : b ≡ min (length T.plan) (a + stretch)) (work' : List ℕ) (ms : List Mark)
      (X : TakesPart (part T a b) row work work' ms)
    where
      step-inside : stretch * s ≤ length T.plan
      step-inside = omega (arith, G.few, mul-div-le (length T.plan) stretch)

      -- the steps of this stretch, and those after them
      abbrev own-steps : List Action
      own-steps = take stretch (left-from s)

      plan-is : (part T a b).plan ≡ own-steps
      plan-is = rw (← from) (stretch-plan T.plan a b (omega (arith, from, step-inside)) to)

      next-is : stretch * s + stretch ≡ stretch * suc s
      next-is = omega arith

      later-is : drop stretch (left-from s) ≡ left-from (suc s)
      later-is = drop-drop stretch (stretch * s) T.plan ∙ ap (λ (m : ℕ). drop m T.plan) next-is

      left-is : (part T a b).plan ++ left-from (suc s) ≡ left-from s
      left-is = ap₂ ◌++◌ plan-is (sym later-is) ∙ take-append-drop stretch (left-from s)

      module _ (st : List Bool) (z : length st ≡ T.facts) (K : KeptIn kept T st) (reaches : run two T.facts T.goal T.plan 0 st ≡ reached) where
        abbrev now' : List Bool
        now' = state-before s st

        now-size : length now' ≡ T.facts
        now-size = after-length T.facts (take (stretch * s) T.plan) st z

        row-is : row ≡ map flag now'
        row-is = own ∙ K s (omega (arith, G.few)) ∙ ap (map flag) (state-is T.facts T.plan st (stretch * s) step-inside)

        goes-so :
            run two T.facts T.goal ((part T a b).plan ++ left-from (suc s)) (0 + length (take (stretch * s) T.plan)) now' ≡ reached
        goes-so =
            ap (λ (p : List Action). run two T.facts T.goal p (0 + length (take (stretch * s) T.plan)) now') left-is ∙
            goes-on T.facts T.goal (take (stretch * s) T.plan) (left-from s) 0 st
            (ap (λ (p : List Action). run two T.facts T.goal p 0 st) (take-append-drop (stretch * s) T.plan) ∙ reaches)

        taken : (work' ≡ sets work 0 (rows (take stretch (states T.facts (part T a b).plan now')))) × Marked (part T a b) now' ms
        taken = X now' now-size row-is T.goal (left-from (suc s)) _ goes-so

        next-state : state_after T.facts (part T a b).plan now' ≡ state-before (suc s) st
        next-state =
            ap (λ (p : List Action). state_after T.facts p now') plan-is ∙
            sym (after-both T.facts (take (stretch * s) T.plan) own-steps st) ∙
            ap (λ (p : List Action). state_after T.facts p st) (sym (take-add (stretch * s) stretch T.plan) ∙ ap (λ (m : ℕ). take m T.plan) next-is)

        matter-is :
            matter_before T.facts (part T a b).plan (matter_before T.facts (left-from (suc s)) goal-facts (state-before (suc s) st)) now' ≡
            matter_before T.facts (left-from s) goal-facts now'
        matter-is =
            ap (λ (x : List Bool). matter_before T.facts (part T a b).plan (matter_before T.facts (left-from (suc s)) goal-facts x) now') (sym next-state) ∙
            sym (matter-both T.facts (part T a b).plan (left-from (suc s)) goal-facts now') ∙
            ap (λ (p : List Action). matter_before T.facts p goal-facts now') left-is

      pub going-next :
          (set' : FactSet) → TracesBack (part T a b) ms set set' → length work' ≡ length work → length before ≡ stretch * T.facts → Going s set' work'
      going-next set' B kept-size full =
          record {
            few = omega (arith, G.few);
            size = kept-size ∙ G.size;
            untouched = λ k. absurd (omega (arith, k, G.few));
            is =
                λ W st z K reaches.
                let later = matter_before T.facts (left-from (suc s)) goal-facts (state-before (suc s) st) in
                subst (HasFacts set') (matter-is st z K reaches)
                (B (part-within T a b (omega (arith, from, to, step-inside)) (omega (arith, to)) W) (now' st z K reaches) (now-size st z K reaches)
                (taken st z K reaches).1 later (matter-length T.facts (left-from (suc s)) goal-facts _ (length-tabulate T.facts (names T.goal)))
                (G.is W st z K reaches));
            first =
                λ e st z K reaches blank.
                let begun : now' st z K reaches ≡ st = rw e (after-none T.facts st) in
                let whole : (part T a b).plan ≡ take stretch T.plan = plan-is ∙ rw e refl in
                (taken st z K reaches).0 ∙
                ap₂ (λ (p : List Action) (x : List Bool). sets work 0 (rows (take stretch (states T.facts p x)))) whole begun ∙
                ap (λ (cs : List (List Bool)). sets work 0 (rows cs)) (states-begin T.facts stretch T.plan st) ∙
                first-put T.facts T.plan st z work (G.size ∙ full) (λ l. G.untouched (omega (arith, l, e)) ∙ blank);
          }

  pub going-ends : (s : ℕ) (set : FactSet) (work : List ℕ) → Going s set work → s ≡ 0 → TracesStretches T kept before work set
  going-ends s set work G e W st z K reaches blank = (
    subst (HasFacts set)
        (rw e (ap (matter_before T.facts T.plan goal-facts) (after-none T.facts st)) ∙ sym (relevant-is T.facts T.goal T.plan st))
        (G.is W st z K reaches),
    G.first e st z K reaches blank,
  )

-- ---- the kept rows

-- states of n facts each, row by row
pub row-at :
    (n : ℕ) (cs : List (List Bool)) → OfSize n cs → (rest : List ℕ) (i : ℕ) → i < length cs →
    take n (drop (i * n) (rows cs ++ rest)) ≡ map flag (get_or cs i [])
unfolding rows
row-at n [] h rest i l = absurd (omega arith)
row-at n (c ∷ cs) h rest zero l =
    let size : length (map flag c) ≡ n = length-map c flag ∙ h 0 (omega arith) in
    rw (zero-mul n, append_assoc (map flag c) (rows cs) rest) (take_at (map flag c) (rows cs ++ rest) n size)
row-at n (c ∷ cs) h rest (suc i) l =
    let size : length (map flag c) ≡ n = length-map c flag ∙ h 0 (omega arith) in
    let past : suc i * n ≡ length (map flag c) + i * n = omega (arith, suc-mul i n, size) in
    rw (past, append_assoc (map flag c) (rows cs) rest, drop-append-add (map flag c) (rows cs ++ rest) (i * n))
    (row-at n cs (λ j m. h (suc j) (omega arith)) rest i (omega arith))

-- every 16th state stands in rows that begin with those of all of them
pub kept-in :
    (T : Task) (st : List Bool) → length st ≡ T.facts → (kept rest : List ℕ) → kept ≡ rows (kept_of T st) ++ rest → KeptIn kept T st
kept-in T st z kept rest e i l =
    let count = length T.plan / stretch + 1 in
    let cs = kept_of T st in
    let sized = kept-size T st z count (λ j m. omega (arith, mul-div-le (length T.plan) stretch, m)) in
    let inside : i < length cs = omega (arith, l, length-tabulate count (λ k. state_at T st (stretch * k))) in
    ap (λ (x : List ℕ). take T.facts (drop (i * T.facts) x)) e ∙ row-at T.facts cs sized rest i inside ∙
    ap (map flag) (get_d_tabulate count (λ k. state_at T st (stretch * k)) i [] (omega (arith, l)))
