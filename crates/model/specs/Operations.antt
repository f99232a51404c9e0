-- The public operations, each from the bytes of its arguments to its whole answer, and the running value that following keeps. What is asked of a
-- task is asked of what was read, whoever read it: of a task, or of the refusal that it was read with, which goes through.
use Rattle.std.specs.Prelude.{Bool, cond, ◌&&◌, List, ◌++◌, map, ℕ, ◌+◌, ◌-◌, ◌*◌, ◌%◌, ◌^◌, length, take, drop, eqb, ltb}
use Rattle.model.specs.declared.Limits.{Limits}
use Rattle.model.specs.declared.Counts.{Counts}
use Rattle.model.specs.Limits.{limits_of, max_length, max_plans}
use Rattle.model.specs.Answer.{Answer, refused, answered, ◌>>=◌}
use Rattle.model.specs.Run.{Outcome, reached, missed, blocked}
use Rattle.model.specs.Case.{Task, run_of}
use Rattle.model.specs.Walk.{Line, Verdict, right, wrong, undecided, look_at, judged}
use Rattle.model.specs.CaseList.{follow}
use Rattle.model.specs.Cover.{cover_end}
use Rattle.model.specs.Relevance.{relevant_to, Layout, every_row, fewer_rows}
use Rattle.model.specs.Search.{Search, plans_up_to, plan_count, search}
use Rattle.model.specs.Read.{head_bytes}
use Rattle.model.specs.ProblemBytes.{Problem, problem_of, plan_of, action_at}
use Rattle.model.specs.ListBytes.{list_of, encode_list}

-- lent buffers: the answer of a call that writes, and every byte of the buffer after it
pub record Written : Type 0 where
  pub answer : Answer ℕ
  pub buffer : List ℕ

-- 40, at place 0, for a number that has a bit past the declared facts, or more bits than the width
unfoldable pub is_state_number : Task → ℕ → Bool
is_state_number T s = ltb s (2 ^ T.width) && eqb (s % 2 ^ (T.width - T.facts)) 0

-- the run of one state of a task
abbrev pub state_answer : Task → ℕ → Answer Outcome
state_answer T s = cond (is_state_number T s) (answered (run_of T s)) (refused 40 0)

-- run one state of what was read: 40, or how the run ends of a state, which need not be a start state. A blocked run has its step, and the member of
-- the precondition or the fact that blocks it.
unfoldable pub run_read : Answer Task → ℕ → Answer Outcome
run_read R s = do
  T ← R
  state_answer T s

abbrev pub line_count : Verdict (List Line) → Verdict ℕ
line_count (right ls a) = right (length ls) a
line_count (wrong s o a) = wrong s o a
line_count (undecided a) = undecided a

-- judge what was read: the verdict
unfoldable pub judge_read : Answer Task → ℕ → Answer (Verdict ℕ)
judge_read R grant = do
  T ← R
  answered (line_count (judged T grant))

-- 41 where the run does not reach the goal
abbrev pub when_reached : {A : Type 0} → Outcome → Answer A → Answer A
when_reached reached x = x
when_reached missed x = refused 41 0
when_reached (blocked p) x = refused 41 0

-- what the run of the state s refuses; 41 where it does not reach the goal; 42 where a work area of that length is short of what the layout needs;
-- else the task
unfoldable pub reached_read : Layout → Answer Task → ℕ → ℕ → Answer Task
reached_read L R s room = do
  T ← R
  o ← state_answer T s
  when_reached o (cond (ltb room (L.need T)) (refused 42 0) (answered T))

-- the set of facts that the run of the state s rests on, and what the work area holds then
abbrev pub traced_back : Layout → ℕ → List ℕ → Answer Task → Written
traced_back L s work (refused n q) = record { answer = refused n q; buffer = work }
traced_back L s work (answered T) = record { answer = answered (relevant_to T s); buffer = L.laid_out T s ++ drop (L.need T) work }

-- tell relevant facts of what was read: the set as the number of a state, with the run in the work area as it is laid out, and the rest of it as it
-- was. A refusal changes none of it.
unfoldable pub relevant_read : Layout → Answer Task → ℕ → List ℕ → Written
relevant_read L R s work = traced_back L s work (reached_read L R s (length work))

-- 43 for a length over 4, and then 44 for more than 1,000,000 plans
abbrev pub when_few : {A : Type 0} → ℕ → ℕ → Answer A → Answer A
when_few m longest x = cond (ltb max_length longest) (refused 43 0) (cond (ltb max_plans (plan_count m longest)) (refused 44 0) x)

-- all plans up to a length
abbrev pub plans_in : Problem → ℕ → List (List ℕ)
plans_in p longest = plans_up_to (length p.actions) longest

module _ (F : Limits) where
  -- ---- lists, of what was read

  -- the bytes of a list block with so many lines
  unfoldable pub list_bytes : ℕ → ℕ
  list_bytes lines = head_bytes + F.line * lines

  -- the lines to write into a buffer of that length: refused with 50 where the grant does not suffice, 51 where the plan is wrong (both at the visits
  -- used), 52 where a list has not so many lines, 53 where the buffer is too short (both at the line count)
  unfoldable pub lines_for : ℕ → Verdict (List Line) → Answer (List Line)
  lines_for room (right ls a) =
      cond (ltb F.lines (length ls))
      (refused 52 (length ls))
      (cond (ltb room (list_bytes (length ls))) (refused 53 (length ls)) (answered ls))
  lines_for room (wrong s o a) = refused 51 a
  lines_for room (undecided a) = refused 50 a

  unfoldable pub lines_read : Answer Task → ℕ → ℕ → Answer (List Line)
  lines_read R grant room = do
    T ← R
    lines_for room (judged T grant)

  -- what becomes of the buffer: a refusal leaves it as it was; else it begins with the list block of the cases that the walk closed, in their order, and
  -- the rest stays. The answer is the block's length.
  unfoldable pub written : List ℕ → Answer (List Line) → Written
  written out (refused n q) = record { answer = refused n q; buffer = out }
  written out (answered ls) =
      record { answer = answered (list_bytes (length ls)); buffer = encode_list F ls ++ drop (list_bytes (length ls)) out }

  -- write the list of what was read: the answer of the call, and the buffer after it
  unfoldable pub write_read : Answer Task → ℕ → List ℕ → Written
  write_read R grant out = written out (lines_read R grant (length out))

  -- follow a list: what the reading of its block refuses, and then line by line
  unfoldable pub follow_read : Answer Task → List ℕ → Answer ℕ
  follow_read R list = do
    T ← R
    ls ← list_of F list
    follow T.width (look_at T) T.facts ls 0 0

  -- cover after: the running value after the first so many lines, or after all where a list has fewer. It is refused as following is, up to 64, and
  -- then with the first fault among these lines.
  unfoldable pub cover_read : Answer Task → List ℕ → ℕ → Answer ℕ
  cover_read R list lines = do
    T ← R
    ls ← list_of F list
    cover_end T.width (look_at T) T.facts (take lines ls) 0 0

  -- ---- the operations on blocks

  -- read a problem: its refusals, or how many facts and actions it has
  unfoldable pub read_problem : List ℕ → Answer Counts
  read_problem problem = do
    p ← problem_of F problem
    answered (record { facts = p.facts; actions = length p.actions })

  -- read a plan: the problem's refusals, those of the plan, or how many steps it has
  unfoldable pub read_plan : List ℕ → List ℕ → Answer ℕ
  read_plan problem plan = do
    p ← problem_of F problem
    steps ← plan_of plan (length p.actions)
    answered (length steps)

  -- a problem and the steps of a plan for it: they are looked up among its actions
  unfoldable pub task_of : Problem → List ℕ → Task
  task_of p steps =
      record { width = F.width; facts = p.facts; initial = p.initial; goal = p.goal; plan = map (action_at p.actions) steps }

  -- problem and plan, as every operation on both reads them: the problem's refusals, those of the plan, or the task that they make
  unfoldable pub read_task : List ℕ → List ℕ → Answer Task
  read_task problem plan = do
    p ← problem_of F problem
    steps ← plan_of plan (length p.actions)
    answered (task_of p steps)

  abbrev pub run_state : List ℕ → List ℕ → ℕ → Answer Outcome
  run_state problem plan s = run_read (read_task problem plan) s

  abbrev pub judge : List ℕ → List ℕ → ℕ → Answer (Verdict ℕ)
  judge problem plan grant = judge_read (read_task problem plan) grant

  abbrev pub write_list : List ℕ → List ℕ → ℕ → List ℕ → Written
  write_list problem plan grant out = write_read (read_task problem plan) grant out

  abbrev pub follow_list : List ℕ → List ℕ → List ℕ → Answer ℕ
  follow_list problem plan list = follow_read (read_task problem plan) list

  abbrev pub cover_after : List ℕ → List ℕ → List ℕ → ℕ → Answer ℕ
  cover_after problem plan list lines = cover_read (read_task problem plan) list lines

  -- with the states of the run in the first rows of the work area
  abbrev pub relevant_facts : List ℕ → List ℕ → ℕ → List ℕ → Written
  relevant_facts problem plan s work = relevant_read every_row (read_task problem plan) s work

  -- sparsely: with every 16th state of the run and its first 16
  abbrev pub relevant_facts_sparse : List ℕ → List ℕ → ℕ → List ℕ → Written
  relevant_facts_sparse problem plan s work = relevant_read fewer_rows (read_task problem plan) s work

  -- search plans: the problem's refusals, 43, 44, and else what the search finds
  unfoldable pub search_plans : List ℕ → ℕ → ℕ → Answer Search
  search_plans problem longest grant = do
    p ← problem_of F problem
    when_few (length p.actions) longest (answered (search (task_of p) grant (plans_in p longest) 0))

-- what a problem's block and a plan's are read as, in the version that the problem's begins with
abbrev pub read_both : List ℕ → List ℕ → Answer Task
read_both problem plan = read_task (limits_of problem) problem plan
