-- What is answered from fewer rows, if the run is reached. Assumes nothing.
use Rattle.std.proofs.Common.{◌≡◌, sym, ap, ap₂, ◌∙◌, List, Bool, ◌++◌, ℕ, ◌+◌, ◌-◌, ◌*◌, ◌/◌, ◌≤◌, arith, length, take, drop, replicate, append_assoc, length-append, length-take, length-drop, take_at, drop_at, drop-drop, add-mul, mul-le-mul_right, mul-le-mul_left, le_trans}
use lib.Seq.{sets-eq}
use borrow.Rule.Slice.PartMut.{put_mid}
use Rattle.model.specs.{Limits.max_steps, Case.state_of, Case.Task, Case.run_of}
use Rattle.model.specs.Relevance.{stretch, padded, rows, relevant, number_of, relevant_to, run_states, kept_states, sparse_bytes, sparse_rows, fewer_rows}
use Rattle.model.proofs.{Laws.Relevance.relevant-length, Laws.Relevance.start-length, Laws.Tracing.rows-append, Laws.Tracing.kept-rows-length}
use Rattle.blocks.specs.declared.problem.Problem as problems
use Rattle.blocks.specs.declared.task.Task as tasks
use Rattle.blocks.specs.Values.{task}
use Rattle.blocks.proofs.Tasks.{task-facts, plan-length}
use Rattle.cases.specs.declared.cases.Cases.{Cases}
use Rattle.backward.specs.{declared.facts.FactSet.FactSet, Facts.HasFacts, Marks.WithinTask, Kept.kept_of, Kept.KeepsRows, Stretches.TracesStretches}
use Rattle.backward.proofs.Stretching.{kept-in}
use Rattle.relevance.proofs.Answers.{TracesTask}

-- the bytes of the rows that are kept
abbrev pub kept_bytes : Task → ℕ
kept_bytes T = (length T.plan / stretch + 1) * T.facts

need-splits : (T : Task) → sparse_bytes T ≡ kept_bytes T + stretch * T.facts
need-splits T = add-mul (length T.plan / stretch + 1) stretch T.facts

-- the kept rows, and then those of the first stretch with zeros after them
sparse-is :
    (T : Task) → T.facts ≤ T.width → (s : ℕ) →
    sparse_rows T s ≡ rows (kept_states T s) ++ padded (stretch * T.facts) (rows (take stretch (run_states T s)))
unfolding sparse_rows
sparse-is T n≤w s =
    let kept = rows (kept_states T s) in
    let first = rows (take stretch (run_states T s)) in
    let e : sparse_bytes T - length (kept ++ first) ≡ stretch * T.facts - length first =
    omega (arith, length-append kept first, kept-rows-length T n≤w s, need-splits T)
    in
    ap (padded (sparse_bytes T)) (rows-append (kept_states T s) (take stretch (run_states T s))) ∙
    ap (λ (k : ℕ). (kept ++ first) ++ replicate k 0) e ∙
    append_assoc kept first (replicate (stretch * T.facts - length first) 0)

-- the run of a state, of which every 16th row was written down, copied and gone through backward
module _ (T : Task) (n≤w : T.facts ≤ T.width) (within : WithinTask T) (c : Cases) (blank kept' : List ℕ) (fits : kept_bytes T ≤ length blank)
    (P : KeepsRows T c blank kept') (set : FactSet) (zeros rows' : List ℕ) (z : zeros ≡ replicate (stretch * T.facts) 0)
    (B : TracesStretches T kept' zeros rows' set) (r : ℕ) (N : (m : List Bool) → length m ≤ T.width → HasFacts set m → r ≡ number_of T.width m) where
  pub traces-sparse :
      (before part after : List ℕ) (count : ℕ) → count ≡ kept_bytes T → part ≡ take count kept' →
      after ≡ part ++ (rows' ++ drop (sparse_bytes T) before) → TracesTask fewer_rows T c before r after
  unfolding relevant_to run_of
  traces-sparse before part after count count-is copied e s shown reaches =
      let st = state_of T.width T.facts s in
      let size = start-length T n≤w s in
      let kept = rows (kept_of T st) in
      let long : length kept ≡ kept_bytes T = kept-rows-length T n≤w s in
      let split = P st size shown reaches ∙ sets-eq kept blank 0 (omega (arith, long, fits)) in
      let held : part ≡ kept = copied ∙ rw (count-is, split) (take_at kept _ (kept_bytes T) long) in
      let (is, rows-are) = B within st size (kept-in T st size kept' _ split) reaches z in (
        N (relevant T.facts T.goal T.plan st) (omega (arith, relevant-length T.facts T.goal T.plan st, n≤w)) is,
        e ∙ rw (held, rows-are, sparse-is T n≤w s) (sym (append_assoc kept _ (drop (sparse_bytes T) before))),
      )

-- ---- a task of a problem, and the bytes that its fewer rows need

module _ (t : tasks.Task) (p : problems.Problem) (e : t.problem.now ≡ p) where
  facts-is : p.facts ≡ (task t).facts
  facts-is = sym (task-facts t ∙ ap (λ (x : problems.Problem). x.facts) e)

  pub count-is : (length t.steps.now / 16 + 1) * p.facts ≡ kept_bytes (task t)
  count-is = ap₂ (λ (x y : ℕ). (x / 16 + 1) * y) (sym (plan-length t)) facts-is

  pub sparse-need-is : (length t.steps.now / 16 + 1) * p.facts + 16 * p.facts ≡ sparse_bytes (task t)
  sparse-need-is = rw (count-is, facts-is) (sym (need-splits (task t)))

  -- the rows that are kept, over however many facts a version has
  pub kept-small : length (task t).plan ≤ max_steps → (length t.steps.now / 16 + 1) * p.facts ≤ 1088
  kept-small l =
      let a : length t.steps.now / 16 + 1 ≤ 17 = omega (arith, plan-length t) in
      let few : p.facts ≤ 64 = omega (arith, p.few_facts, p.sensible.facts) in
      le_trans (mul-le-mul_right p.facts a) (mul-le-mul_left 17 few)

-- the kept rows, and after them the others, written into the work area
pub laid :
    (before part rows' : List ℕ) (count k need : ℕ) → length part ≡ count → count ≤ need → k ≡ need - count →
    put_mid count k (part ++ drop count before) rows' ≡ part ++ (rows' ++ drop need before)
laid before part rows' count k need size few e =
    let whole : count + k ≡ need = omega arith in
    (λ i. take_at part (drop count before) count size i ++ (rows' ++ drop k (drop_at part (drop count before) count size i))) ∙
    ap (λ (x : List ℕ). part ++ (rows' ++ x)) (drop-drop k count before ∙ ap (λ (n : ℕ). drop n before) whole)

-- the room after the kept rows
pub room-after :
    (before part : List ℕ) (count k extra : ℕ) → length part ≡ count → count + extra ≤ length before → k ≡ extra →
    length (take k (drop count (part ++ drop count before))) ≡ extra
room-after before part count k extra size room e =
    ap (λ (x : List ℕ). length (take k x)) (drop_at part (drop count before) count size) ∙
    length-take k (drop count before) ∙
    omega (arith, length-drop count before)
