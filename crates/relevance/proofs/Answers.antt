-- What is refused, and what is answered of a task that was read. Assumes nothing.
use Rattle.std.proofs.Common.{◌≡◌, refl, sym, ap, ap₂, subst, ◌∙◌, Bool, false, cond, List, ◌++◌, ℕ, suc, ◌+◌, ◌*◌, ◌≤◌, ◌<◌, mul-le-mul_left, mul-le-mul_right, le_trans, arith, length, take, drop, take_at, ltb, Result, Ok, Err, ltb-false}
use lib.Seq.{sets-eq}
use Rattle.model.specs.{declared.Refusal.Refusal, Faults.fault_number, Limits.max_facts, Limits.max_steps, Answer.Answer, Answer.refused, Answer.answered}
use Rattle.model.specs.{Answers.refusal, Answers.plain_answer, Kleene.two, Run.run, Case.state_of, Case.Task, Case.run_of, Action.tabulate}
use Rattle.model.specs.Relevance.{names, relevant, states, rows, number_of, relevant_to, work_bytes, run_rows, Layout, every_row}
use Rattle.model.specs.Operations.{when_reached, reached_read, relevant_read}
use Rattle.model.specs.Answer as Answer
use Rattle.model.specs.Run as Run
use Rattle.model.proofs.{Laws.Relevance.relevant-length, Laws.Relevance.start-length, Laws.Tabulate.length-tabulate, Laws.Tracing.rows-length}
use Rattle.blocks.specs.declared.problem.Problem as problems
use Rattle.blocks.specs.declared.task.Task as tasks
use Rattle.blocks.specs.Values.{task}
use Rattle.blocks.proofs.Tasks.{task-facts, plan-length}
use Rattle.cases.specs.declared.cases.Cases.{Cases}
use Rattle.backward.specs.{declared.facts.FactSet.FactSet, declared.matters.Mark.Mark, Facts.has_fact, Facts.HasFacts, Marks.WithinTask, Marks.TracesBack}
use Rattle.backward.specs.Rows.{Shows, PutsRun, TellsReached, is_reached as ends-reached}
use Rattle.backward.proofs.Tracing.{by-rule, relevant-is}
use Rattle.runs.specs.States.{HasState, StateOf}
use Rattle.runs.proofs.States.{case-known}
use Rattle.relevance.specs.Tracing.{ChecksReached, ChecksRun, ChecksRoom, TracesMarks}

-- ---- the operation

-- what a call that lays a run out as L does answers and leaves
abbrev pub Leaves : Layout → Answer Task → ℕ → List ℕ → Answer ℕ → List ℕ → Type 0
Leaves L R s before a after = let w = relevant_read L R s before in (a ≡ w.answer) × (after ≡ w.buffer)

leaves-refused :
    (L : Layout) (R : Answer Task) (s : ℕ) (before : List ℕ) (n q : ℕ) → reached_read L R s (length before) ≡ refused n q → Leaves L R s before (refused n q) before
unfolding relevant_read
leaves-refused L R s before n q e = rw e (refl, refl)

pub relevant-refused : (L : Layout) (R : Answer Task) (y : Refusal) → R ≡ refusal y → (s : ℕ) (before : List ℕ) → Leaves L R s before (refusal y) before
unfolding reached_read Answer.◌>>=◌
relevant-refused L R y e s before = leaves-refused L R s before (fault_number y.fault) y.place (rw e)

-- what is so of the task that was read
pub relevant-read : (L : Layout) (R : Answer Task) (T : Task) → R ≡ answered T → (s : ℕ) (before : List ℕ) (a : Answer ℕ) (after : List ℕ) → Leaves L (answered T) s before a after → Leaves L R s before a after
relevant-read L R T e s before a after l = rw e l

-- a run that is not reached, and one that is
abbrev passed : Answer (Unit {0})
passed = answered tt

not-reached : {A : Type 0} (o : Run.Outcome) (n q : ℕ) → refused n q ≡ when_reached o passed → (x : Answer A) → when_reached o x ≡ refused n q
not-reached o n q e x = grind arith

-- and so it is of the room
too-short : {A : Type 0} (b : Bool) (n q : ℕ) → refused n q ≡ cond b (refused 42 0) passed → (x : Answer A) → cond b (refused 42 0) x ≡ refused n q
too-short b n q e x = grind arith

has-room : {A : Type 0} (b : Bool) → passed ≡ cond b (refused 42 0) passed → (x : Answer A) → cond b (refused 42 0) x ≡ x
has-room b e x = grind arith

pub checks-run :
    (T : Task) (c : Cases) (b : Bool) → TellsReached T c b → (r : Result (Unit {0}) Refusal) → ChecksReached b r → ChecksRun T c r
checks-run T c b tells r C st size shown = C ∙ by-end (run two T.facts T.goal T.plan 0 st) b (tells st size shown)
  where
    by-end : (o : Run.Outcome) (b : Bool) → b ≡ ends-reached o → cond b passed (refused 41 0) ≡ when_reached o passed
    by-end o b e = grind arith

is-reached : (o : Run.Outcome) → passed ≡ when_reached o passed → o ≡ Run.reached
is-reached o e = grind arith

-- ---- what a run that is reached is answered with

-- the number of the set
pub traces-marks :
    (T : Task) → T.facts ≤ T.width → (ms : List Mark) (after set : FactSet) → ((f : ℕ) → f < max_facts → has_fact after f ≡ names T.goal f) →
    TracesBack T ms after set → (r : ℕ) → ((m : List Bool) → length m ≤ T.width → HasFacts set m → r ≡ number_of T.width m) → TracesMarks T ms r
traces-marks T n≤w ms after set G B r N within st size marked =
    let n = T.facts in
    let goal-set = by-rule n after (names T.goal) G within.goal in
    N (relevant n T.goal T.plan st) (omega (arith, relevant-length n T.goal T.plan st, n≤w))
    (subst (HasFacts set) (sym (relevant-is n T.goal T.plan st)) (B within st size marked (tabulate n (names T.goal)) (length-tabulate n (names T.goal)) goal-set))

-- the set of facts that the run of the state in lane 0 rests on, and the work area after it, if the run is reached
abbrev pub TracesTask : Layout → Task → Cases → List ℕ → ℕ → List ℕ → Type 0
TracesTask L T c before r after =
    (s : ℕ) → Shows c (state_of T.width T.facts s) → run_of T s ≡ Run.reached → (r ≡ relevant_to T s) × (after ≡ L.laid_out T s ++ drop (L.need T) before)

-- the run of a state, written down, copied and gone through backward
module _ (T : Task) (n≤w : T.facts ≤ T.width) (within : WithinTask T) (c : Cases) (blank rows' : List ℕ) (ms : List Mark) (fits : work_bytes T ≤ length blank)
    (P : PutsRun T c blank rows' ms) (r : ℕ) (B : TracesMarks T ms r) (before part : List ℕ) (need : ℕ)
    (need-is : need ≡ work_bytes T) (copied : part ≡ take need rows') where
  pub traces-task : TracesTask every_row T c before r (part ++ drop need before)
  unfolding relevant_to run_rows run_of
  traces-task s shown reaches =
      let st = state_of T.width T.facts s in
      let size = start-length T n≤w s in
      let (written, marked) = P st size shown reaches in
      let run' = rows (states T.facts T.plan st) in
      let z : length run' ≡ work_bytes T = rows-length T.facts T.plan st size in
      let held : take need rows' ≡ run' = rw (need-is, written ∙ sets-eq run' blank 0 (omega (arith, z, fits))) (take_at run' _ (work_bytes T) z) in
      (B within st size marked, rw (copied ∙ held, need-is) refl)

-- ---- the answer of a task that was read

module _ (L : Layout) (T : Task) (s : ℕ) (before : List ℕ) where
  abbrev room : ℕ
  room = length before

  pub relevant-no-state : (y : Refusal) → StateOf T s (Err y) → Leaves L (answered T) s before (refusal y) before
  unfolding reached_read Answer.◌>>=◌
  relevant-no-state y (none, e) = leaves-refused L (answered T) s before (fault_number y.fault) y.place (rw (none, e) refl)

  module _ (n≤w : T.facts ≤ T.width) (c : Cases) (H : HasState T s c) where
    shows : Shows c (state_of T.width T.facts s)
    shows = H.cases 0 (omega arith) ∙ case-known T.width T.facts s

    checked : reached_read L (answered T) s room ≡ when_reached (run_of T s) (cond (ltb room (L.need T)) (refused 42 0) (answered T))
    unfolding reached_read Answer.◌>>=◌
    checked = rw H.is refl

    ran : (r : Result (Unit {0}) Refusal) → ChecksRun T c r → plain_answer r ≡ when_reached (run_of T s) passed
    unfolding run_of
    ran r R = R (state_of T.width T.facts s) (start-length T n≤w s) shows

    pub relevant-unrun : (y : Refusal) → ChecksRun T c (Err y) → Leaves L (answered T) s before (refusal y) before
    relevant-unrun y R =
        leaves-refused L (answered T) s before (fault_number y.fault) y.place (checked ∙ not-reached (run_of T s) (fault_number y.fault) y.place (ran (Err y) R) _)

    module _ (u : Unit {0}) (R : ChecksRun T c (Ok u)) where
      reaches : run_of T s ≡ Run.reached
      reaches = is-reached (run_of T s) (ran (Ok u) R)

      module _ (need : ℕ) (need-is : need ≡ L.need T) where
        tests-room : reached_read L (answered T) s room ≡ cond (ltb room need) (refused 42 0) (answered T)
        tests-room = checked ∙ rw (reaches, need-is) refl

        pub relevant-short : (y : Refusal) → ChecksRoom need room (Err y) → Leaves L (answered T) s before (refusal y) before
        relevant-short y C = leaves-refused L (answered T) s before (fault_number y.fault) y.place (tests-room ∙ too-short (ltb room need) (fault_number y.fault) y.place C (answered T))

        pub relevant-found : (v : Unit {0}) → ChecksRoom need room (Ok v) → (m : ℕ) (after : List ℕ) → TracesTask L T c before m after → Leaves L (answered T) s before (answered m) after
        unfolding relevant_read
        relevant-found v C m after X =
            let (i, k) = X s shows reaches in
            rw (tests-room ∙ has-room (ltb room need) C (answered T)) (ap answered i, k)

-- ---- a task of a problem, and the bytes that its rows need

pub fits-room : (need room : ℕ) → ChecksRoom need room (Ok tt) → need ≤ room
fits-room need room C = let room-is : ltb room need ≡ false = grind arith in ltb-false room need room-is

module _ (t : tasks.Task) (p : problems.Problem) (e : t.problem.now ≡ p) where
  pub facts-is : p.facts ≡ (task t).facts
  facts-is = sym (task-facts t ∙ ap (λ (x : problems.Problem). x.facts) e)

  pub need-is : (length t.steps.now + 1) * p.facts ≡ work_bytes (task t)
  need-is =
      let k : length t.steps.now + 1 ≡ suc (length (task t).plan) = omega (arith, plan-length t) in
      ap₂ (λ (x y : ℕ). x * y) k facts-is

  -- the rows of a run, over however many facts a version has
  pub need-small : length (task t).plan ≤ max_steps → (length t.steps.now + 1) * p.facts ≤ 16448
  need-small l =
      let a : length t.steps.now + 1 ≤ 257 = omega (arith, plan-length t) in
      let few : p.facts ≤ 64 = omega (arith, p.few_facts, p.sensible.facts) in
      le_trans (mul-le-mul_right p.facts a) (mul-le-mul_left 257 few)

  pub has-rows : (room : ℕ) → ChecksRoom ((length t.steps.now + 1) * p.facts) room (Ok tt) → suc (length t.steps.now) * p.facts ≤ room
  has-rows room C = let k : length t.steps.now + 1 ≡ suc (length t.steps.now) = omega arith in rw (← k) (fits-room _ room C)
