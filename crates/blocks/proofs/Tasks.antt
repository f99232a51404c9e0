-- A plan that was read beside a problem, and what a task shows. Assumes nothing.
use Rattle.std.proofs.Common.{◌≡◌, refl, ap, ◌∙◌, ℕ, zero, suc, ◌+◌, ◌≤◌, ◌<◌, List, [], ◌∷◌, map, length, drop, slice_index, arith}
use lib.ListN.{length-map}
use Rattle.std.proofs.lemmas.List.{get_or-map}
use Rattle.model.specs.{declared.Limits.Limits, declared.Refusal.Refusal, Answer.Answer, Answer.refused, Answer.answered, Answer.◌>>=◌, Answers.refusal, Action.Action}
use Rattle.model.specs.Read.{got, head_bytes, bytes_of, block, answer_of}
use Rattle.model.specs.ProblemBytes.{Problem, problem_of, plan, plan_of, encode_plan, action_at}
use Rattle.model.specs.{Operations.task_of, Operations.read_problem, Operations.read_plan, Operations.read_task, WellFormed.Each}
use Rattle.model.specs.Case as cases
use Rattle.model.proofs.{Laws.Reading.length-block, Laws.ProblemCodec.plan-gives, Laws.Tabulate.length-tabulate}
use Rattle.formula.specs.{Readings.rejected, Readings.forgotten, Views.formula}
use Rattle.formula.proofs.Readers.{next-got}
use Rattle.blocks.proofs.Promise.{OfSlice, of-slice}
use Rattle.blocks.specs.declared.problem.Problem as values
use Rattle.blocks.specs.{declared.task.Task.Task, Values.problem, Values.task, Values.task_from}

-- ---- the plan

-- where it is read, its steps are all that follows the header
pub plan_read :
    (t : List ℕ) (m : ℕ) {q : ℕ} → OfSlice t → got tt q ≡ forgotten (plan t m 0) →
    (bs : List ℕ) × (plan t m 0 ≡ got bs q) × (length t ≡ head_bytes + length bs) × (drop head_bytes t ≡ bs) × Each (λ b. b < m) bs
unfolding encode_plan block bytes_of
plan_read t m {q} b h =
    let g = next-got _ _ h in
    let (k, z, end) = (plan-gives t m (of-slice t b)).of g.value q g.is in
    (g.value, g.is, ap length z ∙ length-block 1 g.value, ap (drop head_bytes) z, k.actions)

pub each_below : {m : ℕ} (bs : List ℕ) → Each (λ b. b < m) bs → (i : ℕ) → i < length bs → slice_index bs i < m
each_below [] k i l = absurd (omega arith)
each_below (b ∷ bs) (h, k) zero l = h
each_below (b ∷ bs) (h, k) (suc i) l = each_below bs k i (omega arith)

-- the action of a plan's step is the one that the step names
pub step-action :
    (as' : List Action) (bs : List ℕ) (i : ℕ) → i < length bs → action_at (map (action_at as') bs) i ≡ action_at as' (slice_index bs i)
unfolding action_at
step-action as' bs i h = get_or-map (action_at as') bs i 0 _ h

module _ (F : Limits) (p : Problem) (t : List ℕ) {m : ℕ} (e : length p.actions ≡ m) where
  pub plan-refused : (y : Refusal) → plan t m 0 ≡ rejected y → refusal y ≡ task_from F p t
  unfolding plan_of answer_of ◌>>=◌
  plan-refused y k = rw (e, k)

  pub plan-task : {steps : List ℕ} {q : ℕ} → plan t m 0 ≡ got steps q → answered (task_of F p steps) ≡ task_from F p t
  unfolding plan_of answer_of ◌>>=◌
  plan-task k = rw (e, k)

module _ (t : List ℕ) {n m : ℕ} (e : n ≡ m) where
  pub plan-unread : (y : Refusal) → plan t m 0 ≡ rejected y → refusal y ≡ plan_of t n
  unfolding plan_of answer_of
  plan-unread y k = rw (e, k)

  pub plan-steps : {steps : List ℕ} {q : ℕ} → plan t m 0 ≡ got steps q → answered steps ≡ plan_of t n
  unfolding plan_of answer_of
  plan-steps k = rw (e, k)

-- ---- a problem alone, as an operation reads it

pub read_problem-refused : (F : Limits) (s : List ℕ) (y : Refusal) → refusal y ≡ problem_of F s → refusal y ≡ read_problem F s
unfolding read_problem ◌>>=◌
read_problem-refused F s y e = rw (← e)

pub read_problem-found :
    (F : Limits) (s : List ℕ) (p : values.Problem) → answered (problem p) ≡ problem_of F s → answered (record { facts = p.facts; actions = p.actions.count }) ≡ read_problem F s
unfolding read_problem ◌>>=◌
read_problem-found F s p e = rw (← e, length-tabulate) refl

-- ---- a problem and a plan, as an operation reads them

module _ (F : Limits) (s t : List ℕ) where
  pub read_task-refused : (y : Refusal) → refusal y ≡ problem_of F s → read_task F s t ≡ refusal y
  unfolding read_task ◌>>=◌
  read_task-refused y e = rw (← e)

  -- where the problem was read, whether the plan was read or refused
  pub read_task-from : {l : Limits} {p : Problem} {x : Answer cases.Task} → answered p ≡ problem_of F s → l ≡ F → x ≡ task_from l p t → read_task F s t ≡ x
  unfolding read_task ◌>>=◌
  read_task-from {l} {p} {x} e v k = rw (← e, ← v, k)

-- the task of a problem that was read by a version's numbers has these
pub of-version : (t : Task) (p : values.Problem) → t.problem.now ≡ p → {F : Limits} → p.limits ≡ F → t.problem.now.limits ≡ F
of-version t p e f = ap (λ (x : values.Problem). x.limits) e ∙ f

-- ---- the step count: a plan has as many steps as its task

module _ (F : Limits) (s t : List ℕ) where
  pub read_plan-refused : (y : Refusal) → refusal y ≡ problem_of F s → refusal y ≡ read_plan F s t
  unfolding read_plan ◌>>=◌
  read_plan-refused y e = rw (← e)

  pub read_plan-from :
      (l : Limits) {p : Problem} {x : Answer cases.Task} → answered p ≡ problem_of F s → x ≡ task_from l p t → (x >>= λ T. answered (length T.plan)) ≡ read_plan F s t
  unfolding read_plan task_of ◌>>=◌
  read_plan-from l {p} e k = rw (← e, k) (counted (plan_of t (length p.actions)))
    where
      counted : (y : Answer (List ℕ)) → ((y >>= λ steps. answered (task_of l p steps)) >>= λ T. answered (length T.plan)) ≡ (y >>= λ steps. answered (length steps))
      counted (refused n q) = refl
      counted (answered steps) = ap answered (length-map steps (action_at p.actions))

-- ---- what a problem shows

-- it has as many actions as it says
pub action-count : (p : values.Problem) → length (problem p).actions ≡ p.actions.count
action-count p = length-tabulate _ _

-- ---- what a task shows

module _ (t : Task) where
  pub task-width : (task t).width ≡ t.problem.now.limits.width
  unfolding task_of
  task-width = refl

  pub task-facts : (task t).facts ≡ t.problem.now.facts
  unfolding task_of
  task-facts = refl

  pub task-initial : (task t).initial ≡ formula t.problem.now.initial
  unfolding task_of
  task-initial = refl

  pub task-goal : (task t).goal ≡ formula t.problem.now.goal
  unfolding task_of
  task-goal = refl

  -- a state has a bit for each fact
  pub facts-fit : (task t).facts ≤ (task t).width
  unfolding task_of
  facts-fit = omega (arith, t.problem.now.few_facts, t.problem.now.sensible.width)

  pub plan-length : length (task t).plan ≡ length t.steps.now
  unfolding task_of
  plan-length = length-map t.steps.now (action_at (problem t.problem.now).actions)

  -- a step's action is the one that it names
  pub plan-action :
      (i : ℕ) → i < length t.steps.now → action_at (task t).plan i ≡ action_at (problem t.problem.now).actions (slice_index t.steps.now i)
  unfolding task_of
  plan-action i l = step-action (problem t.problem.now).actions t.steps.now i l
