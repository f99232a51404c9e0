-- What the operations guarantee, said of their definitions: all input, verdicts, certificates; and what the relevant facts, the search and the
-- kinds of cover rest on. A reviewer opens this file first; proofs/Guarantees.antt proves it for every version whose numbers are sensible, and
-- so for both versions.
--
-- What is asked of a task is said of the task, whoever read it: each operation on blocks is one of these, of what reading the blocks gives.
--
-- What no definition can say is proved of the code by the toolchain: that every call ends and touches only the lent buffers. Each
-- operation's contract is an equation with its definition, so what is said here of a definition holds of the code's answer.
use Rattle.std.specs.Prelude.{◌≡◌, ◌↔◌, ◌≢◌, List, ◌∷◌, ◌++◌, ℕ, suc, ◌+◌, ◌-◌, ◌*◌, ◌/◌, ◌≤◌, ◌<◌, length, take, drop}
use Rattle.model.specs.declared.Limits.{Limits}
use Rattle.model.specs.Limits.{max_length, max_plans}
use Rattle.model.specs.Answer.{Answer, refused, answered}
use Rattle.model.specs.Run.{Outcome, reached}
use Rattle.model.specs.Case.{bit, state_of, Task, run_of, IsState, IsStart, Right}
use Rattle.model.specs.Belief.{Solution, initial_belief, OutcomeMeans}
use Rattle.model.specs.Walk.{Line, covered, Verdict, right, wrong, undecided, visits, look_at, walked}
use Rattle.model.specs.Relevance.{relevant_to, is_relevant, AgreeOn, Layout, every_row, fewer_rows}
use Rattle.model.specs.Search.{Search, first_right, none_right, undecided_at, visits_of, IsShort, Earlier, Enumerates}
use Rattle.model.specs.Read.{head_bytes}
use Rattle.model.specs.ProblemBytes.{Problem, problem_of, plan_of, encode_problem, encode_plan}
use Rattle.model.specs.ListBytes.{list_of, encode_list}
use Rattle.model.specs.WellFormed.{Bytes, Each, ProblemOk, PlanOk, ListOk, TaskOk, ReadOk, LineHolds, Joined}
use Rattle.model.specs.Operations.{Written, run_read, judge_read, list_bytes, write_read, follow_read, relevant_read, task_of, read_task, plans_in, search_plans}

-- All input: a block that is malformed is refused, by the number and place of its first fault, and no other; and a refused call leaves every byte
-- as it was. Which fault comes first is the text of the readers (FormulaBytes, ProblemBytes, ListBytes).
pub record AllInput (F : Limits) : Type 0 where
  -- nothing malformed gets through: what is accepted is sound, and the bytes are its encoding
  pub problem_sound :
      (s : List ℕ) → Bytes s → (p : Problem) → problem_of F s ≡ answered p → ProblemOk F p × (s ≡ encode_problem F p)
  pub plan_sound :
      (s : List ℕ) → Bytes s → (m : ℕ) → (steps : List ℕ) → plan_of s m ≡ answered steps →
      PlanOk m steps × (s ≡ encode_plan steps)
  pub list_sound :
      (s : List ℕ) → Bytes s → (ls : List Line) → list_of F s ≡ answered ls → ListOk F ls × (s ≡ encode_list F ls)
  -- nothing sound is turned down
  pub problem_accepted : (p : Problem) → ProblemOk F p → problem_of F (encode_problem F p) ≡ answered p
  pub plan_accepted : (m : ℕ) (steps : List ℕ) → PlanOk m steps → plan_of (encode_plan steps) m ≡ answered steps
  pub list_accepted : (ls : List Line) → ListOk F ls → list_of F (encode_list F ls) ≡ answered ls
  pub task_accepted :
      (p : Problem) (steps : List ℕ) → ProblemOk F p → PlanOk (length p.actions) steps →
      read_task F (encode_problem F p) (encode_plan steps) ≡ answered (task_of F p steps)
  -- what is read is a task of the version
  pub task_sound : (problem plan : List ℕ) → ReadOk F (read_task F problem plan)
  -- a refused call leaves the lent buffer as it was
  pub refused_unchanged :
      (R : Answer Task) (grant : ℕ) (out : List ℕ) (n q : ℕ) →
      (write_read F R grant out).answer ≡ refused n q → (write_read F R grant out).buffer ≡ out
  pub refused_work_unchanged :
      (L : Layout) (R : Answer Task) (s : ℕ) (work : List ℕ) (n q : ℕ) →
      (relevant_read L R s work).answer ≡ refused n q → (relevant_read L R s work).buffer ≡ work
  -- what the run of the state refuses is refused alike, before 41 and 42
  pub run_refuses_first :
      (L : Layout) (R : Answer Task) (s : ℕ) (work : List ℕ) (n q : ℕ) →
      run_read R s ≡ refused n q → (relevant_read L R s work).answer ≡ refused n q
  -- what reading the problem refuses is refused alike, before 43 and 44
  pub problem_refuses_first :
      (problem : List ℕ) (longest grant n q : ℕ) → problem_of F problem ≡ refused n q → search_plans F problem longest grant ≡ refused n q
  -- the answer is the length of the list that was written, and no byte past it is changed
  pub rest_unchanged :
      (R : Answer Task) (grant : ℕ) (out : List ℕ) (n : ℕ) → (write_read F R grant out).answer ≡ answered n →
      (n ≤ length out) × (drop n (write_read F R grant out).buffer ≡ drop n out)

-- a start state that fails, and none below it does
pub record LowestFailing (T : Task) (s : ℕ) : Type 0 where
  pub start : IsStart T s
  pub not_reached : run_of T s ≢ reached
  pub before : (t : ℕ) → IsStart T t → t < s → run_of T t ≡ reached

-- the plan is a solution from the belief of the initial formula
abbrev pub IsSolution : Task → Type 0
IsSolution T = Solution T.facts (initial_belief T.facts T.initial) T.goal T.plan

-- what "right" says, with its lines and visits: every start state reaches the goal
pub record SaysRight (T : Task) (grant lines used : ℕ) : Type 0 where
  pub is_right : Right T
  pub is_solution : IsSolution T
  -- the visits are those of the walk, and were granted
  pub walk_visits : used ≡ visits (walked T)
  pub within : used ≤ grant
  -- every line but the first takes two visits
  pub twice_lines : suc used ≡ 2 * lines

-- what an outcome of the run of the state numbered s says, of the belief that has this state alone
abbrev pub OutcomeSays : Task → ℕ → Outcome → Type 0
OutcomeSays T s o = OutcomeMeans T.facts (state_of T.width T.facts s) T.goal T.plan o

-- what "wrong" says, with a state and how its run ends: no start state below it fails
pub record SaysWrong (T : Task) (grant s : ℕ) (o : Outcome) (used : ℕ) : Type 0 where
  pub lowest : LowestFailing T s
  pub where_it_fails : o ≡ run_of T s
  pub outcome_says : OutcomeSays T s o
  pub walk_visits : used ≡ visits (walked T)
  pub within : used ≤ grant

-- what "undecided" says: the walk needs more than was granted
pub record SaysUndecided (T : Task) (grant used : ℕ) : Type 0 where
  pub all_used : used ≡ grant
  pub needs_more : grant < visits (walked T)

abbrev pub Says : Task → ℕ → Verdict ℕ → Type 0
Says T grant (right lines used) = SaysRight T grant lines used
Says T grant (wrong s o used) = SaysWrong T grant s o used
Says T grant (undecided used) = SaysUndecided T grant used

-- Verdicts, of a task that was read
pub record Verdicts (T : Task) : Type 0 where
  -- every verdict of the judge is so
  pub judge_says : (g : ℕ) (v : Verdict ℕ) → judge_read (answered T) g ≡ answered v → Says T g v
  -- a right plan is a solution, and a solution is right
  pub right_is_solution : Right T ↔ IsSolution T
  -- where the visits suffice, a right plan is called right and any other wrong; where they do not, it is undecided
  pub called_right :
      (g : ℕ) → visits (walked T) ≤ g → Right T →
      (lines : ℕ) × (judge_read (answered T) g ≡ answered (right lines (visits (walked T))))
  pub called_wrong :
      (g : ℕ) → visits (walked T) ≤ g → (Right T → ⊥) →
      (s : ℕ) × (o : Outcome) × (judge_read (answered T) g ≡ answered (wrong s o (visits (walked T))))
  pub called_undecided : (g : ℕ) → g < visits (walked T) → judge_read (answered T) g ≡ answered (undecided g)
  -- where there is no start state, every plan is right
  pub no_start : ((s : ℕ) → IsStart T s → ⊥) → Right T
  -- a right or wrong verdict stays the same under every larger grant
  pub larger_grant :
      (g g' : ℕ) → g ≤ g' → (judge_read (answered T) g ≢ answered (undecided g)) → judge_read (answered T) g' ≡ judge_read (answered T) g
  -- each outcome of a state's run is answered exactly if it is so, and 40 for a number that is no state's
  pub run_says : (s : ℕ) → IsState T s → (o : Outcome) → (run_read (answered T) s ≡ answered o) ↔ OutcomeSays T s o
  pub run_no_state : (s : ℕ) → (IsState T s → ⊥) → run_read (answered T) s ≡ refused 40 0

-- the lines that stand in a list's own bytes
abbrev pub lines_in : Limits → List ℕ → ℕ
lines_in F list = (length list - head_bytes) / F.line

-- what writing the list of a task leaves in the buffer up to the returned length
abbrev pub written_list : Limits → Task → ℕ → List ℕ → ℕ → List ℕ
written_list F T grant out n = take n (write_read F (answered T) grant out).buffer

-- passing lists: a list that passes: its block is sound, its lines follow one another from 0 to the width's end, and each claim holds
pub record Passing (F : Limits) (T : Task) (list : List ℕ) (lines : List Line) : Type 0 where
  pub sound : ListOk F lines
  pub block : list ≡ encode_list F lines
  pub joined : Joined T.width lines 0
  pub hold : Each (LineHolds T.width (look_at T) T.facts) lines

-- the walk closes with these lines, and its visits are within the grant
pub record ClosesWithin (T : Task) (grant : ℕ) (lines : List Line) : Type 0 where
  pub closes : walked T ≡ covered lines (visits (walked T))
  pub within : visits (walked T) ≤ grant

-- why the list of a task that was read is not written into a buffer of `room` bytes, with number and place. 50: the grant is below the walk's
-- visits; the place is the grant. 51: the visits suffice, and the plan is not right; the place is the visits. 52: the walk closes, within the
-- grant, with more lines than a list has; 53: with lines whose block the buffer is too short for; the place is the lines.
pub data NotWritten (F : Limits) (T : Task) (grant room : ℕ) : ℕ → ℕ → Type 0 where
  by_visits : grant < visits (walked T) → NotWritten F T grant room 50 grant
  by_verdict : visits (walked T) ≤ grant → (Right T → ⊥) → NotWritten F T grant room 51 (visits (walked T))
  by_lines : (lines : List Line) → ClosesWithin T grant lines → F.lines < length lines → NotWritten F T grant room 52 (length lines)
  by_room :
      (lines : List Line) → ClosesWithin T grant lines → length lines ≤ F.lines → room < list_bytes F (length lines) →
      NotWritten F T grant room 53 (length lines)

-- Certificates, one claim about whole lists of a task that was read: whatever a list's bytes are, that it passes shows that the plan is right; what
-- is written passes; and no list that passes is shorter.
pub record Certificates (F : Limits) (T : Task) : Type 0 where
  -- any bytes of any length that pass: the plan is right, and the count is that of the lines in those bytes
  pub passes_only_right :
      (list : List ℕ) (m : ℕ) → follow_read F (answered T) list ≡ answered m → Right T × (m ≡ lines_in F list)
  -- a list passes exactly if it is so, with the count of its lines
  pub passes_exactly :
      (list : List ℕ) → Bytes list → (m : ℕ) →
      (follow_read F (answered T) list ≡ answered m) ↔ ((lines : List Line) × Passing F T list lines × (m ≡ length lines))
  -- for a right plan the walk closes with some lines; where the visits suffice and the list fits (neither 52 nor 53 is met), that list
  -- is the one written
  pub writes_walk :
      Right T →
      (lines : List Line) × (walked T ≡ covered lines (visits (walked T))) ×
      ((grant : ℕ) (out : List ℕ) → visits (walked T) ≤ grant → length lines ≤ F.lines → list_bytes F (length lines) ≤ length out →
      ((write_read F (answered T) grant out).answer ≡ answered (list_bytes F (length lines))) ×
      (written_list F T grant out (list_bytes F (length lines)) ≡ encode_list F lines))
  -- each of these refusals where it is so: a grant below the visits; a plan that is not right; more lines than a list has; too short a buffer
  pub out_of_visits :
      (grant : ℕ) (out : List ℕ) → grant < visits (walked T) → (write_read F (answered T) grant out).answer ≡ refused 50 grant
  pub not_right :
      (grant : ℕ) (out : List ℕ) → visits (walked T) ≤ grant → (Right T → ⊥) →
      (write_read F (answered T) grant out).answer ≡ refused 51 (visits (walked T))
  pub too_many_lines :
      (grant : ℕ) (out : List ℕ) (lines : List Line) → ClosesWithin T grant lines → F.lines < length lines →
      (write_read F (answered T) grant out).answer ≡ refused 52 (length lines)
  pub short_buffer :
      (grant : ℕ) (out : List ℕ) (lines : List Line) → ClosesWithin T grant lines → length lines ≤ F.lines →
      length out < list_bytes F (length lines) → (write_read F (answered T) grant out).answer ≡ refused 53 (length lines)
  -- and there is no other refusal
  pub refused_for :
      (grant : ℕ) (out : List ℕ) (n q : ℕ) → (write_read F (answered T) grant out).answer ≡ refused n q → NotWritten F T grant (length out) n q
  -- an answer is the length of the walk's list, which stands in the buffer up to it, and passes
  pub written_is :
      (grant : ℕ) (out : List ℕ) (n : ℕ) → (write_read F (answered T) grant out).answer ≡ answered n →
      (lines : List Line) × ClosesWithin T grant lines × (n ≡ list_bytes F (length lines)) ×
      Passing F T (written_list F T grant out n) lines
  -- what is written passes, and no list that passes has fewer lines
  pub written_passes :
      (grant : ℕ) (out : List ℕ) (n : ℕ) → (write_read F (answered T) grant out).answer ≡ answered n →
      follow_read F (answered T) (written_list F T grant out n) ≡ answered (lines_in F (written_list F T grant out n))
  pub written_least :
      (grant : ℕ) (out : List ℕ) (n : ℕ) → (write_read F (answered T) grant out).answer ≡ answered n →
      (list : List ℕ) (m : ℕ) → follow_read F (answered T) list ≡ answered m →
      lines_in F (written_list F T grant out n) ≤ lines_in F list

-- Relevant facts, of a task that was read: on which start facts a run rests, by a call that lays the run out as L does
module _ (T : Task) (L : Layout) where
  abbrev pub call : ℕ → List ℕ → Written
  call = relevant_read L (answered T)

  pub record Relevance : Type 0 where
    -- after 40, it is refused with 41 where the run does not reach the goal, and with 42 where the rows have no room; otherwise it answers
    pub no_state : (s : ℕ) (work : List ℕ) → (IsState T s → ⊥) → (call s work).answer ≡ refused 40 0
    pub not_reached : (s : ℕ) (work : List ℕ) → IsState T s → run_of T s ≢ reached → (call s work).answer ≡ refused 41 0
    pub short_work :
        (s : ℕ) (work : List ℕ) → IsState T s → run_of T s ≡ reached → length work < L.need T → (call s work).answer ≡ refused 42 0
    pub answers :
        (s : ℕ) (work : List ℕ) → IsState T s → run_of T s ≡ reached → L.need T ≤ length work →
        (call s work).answer ≡ answered (relevant_to T s)
    -- the set has declared facts only
    pub is_state : (s : ℕ) (work : List ℕ) (m : ℕ) → (call s work).answer ≡ answered m → IsState T m
    -- fact by fact: a declared fact's bit in the answer is whether the fact matters before the run
    pub each_bit :
        (s : ℕ) (work : List ℕ) (m : ℕ) → (call s work).answer ≡ answered m →
        (f : ℕ) → f < T.facts → bit T.width m f ≡ is_relevant T s f
    -- from any state that has the same values of these facts the goal is reached too
    pub reached_too :
        (s : ℕ) (work : List ℕ) (m : ℕ) → (call s work).answer ≡ answered m →
        (t : ℕ) → IsState T t → AgreeOn T m s t → run_read (answered T) t ≡ answered reached
    -- the work area holds the rows of the run, and past them it is unchanged
    pub work_holds :
        (s : ℕ) (work : List ℕ) (m : ℕ) → (call s work).answer ≡ answered m →
        (take (L.need T) (call s work).buffer ≡ L.laid_out T s) × (drop (L.need T) (call s work).buffer ≡ drop (L.need T) work)

-- the work area holds what the layout needs for the task, if one was read
abbrev pub Fits : Answer Task → Layout → List ℕ → Type 0
Fits R L work = (T : Task) → R ≡ answered T → L.need T ≤ length work

-- same facts theorem: whatever was read, the two calls answer alike where each work area is long enough, with the same set or the same refusal
abbrev pub SameFacts : Type 0
SameFacts =
    (R : Answer Task) (s : ℕ) (work few : List ℕ) → Fits R every_row work → Fits R fewer_rows few →
    (relevant_read fewer_rows R s few).answer ≡ (relevant_read every_row R s work).answer

-- the plan p, which makes a task, is not right
abbrev pub NotRight : (List ℕ → Task) → List ℕ → Type 0
NotRight task p = Right (task p) → ⊥

-- what an answer of a search says, of any list of plans
module _ (task : List ℕ → Task) (plans : List (List ℕ)) (grant : ℕ) where
  -- the plan p stands in the list after those of `before`, and none of them is right; all of their walks are within the grant
  pub record ComesTo (before : List (List ℕ)) (p : List ℕ) : Type 0 where
    pub after : List (List ℕ)
    pub stands : plans ≡ before ++ (p ∷ after)
    pub none_before : Each (NotRight task) before
    pub within : visits_of task before ≤ grant

  -- it finds a plan: it is right, and no plan before it is; with the visits of all walks
  pub record SaysFirstRight (p : List ℕ) (used : ℕ) : Type 0 where
    pub before : List (List ℕ)
    pub comes_to : ComesTo before p
    pub is_right : Right (task p)
    pub is_used : used ≡ visits_of task before + visits (walked (task p))
    pub granted : used ≤ grant

  -- it finds that none is right
  pub record SaysNoneRight (used : ℕ) : Type 0 where
    pub none : Each (NotRight task) plans
    pub is_used : used ≡ visits_of task plans
    pub granted : used ≤ grant

  -- it is undecided at the first plan for whose walk too few visits are left
  pub record SaysUndecidedAt (p : List ℕ) (used : ℕ) : Type 0 where
    pub before : List (List ℕ)
    pub comes_to : ComesTo before p
    pub needs_more : grant < visits_of task before + visits (walked (task p))
    pub all_used : used ≡ grant

  abbrev pub SearchSays : Search → Type 0
  SearchSays (first_right p used) = SaysFirstRight p used
  SearchSays (none_right used) = SaysNoneRight used
  SearchSays (undecided_at p used) = SaysUndecidedAt p used

-- Search, for a problem that is read as p: every plan up to a length, in order
pub record Searching (F : Limits) (problem : List ℕ) (p : Problem) : Type 0 where
  -- the plans, sorted by length and then by their steps, each of them once
  pub enumerates : (longest : ℕ) → Enumerates (length p.actions) longest (plans_in p longest)
  -- it is refused with 43 for a length over 4, with 44 for more than 1,000,000 plans; otherwise it answers
  pub over_length : (longest grant : ℕ) → max_length < longest → search_plans F problem longest grant ≡ refused 43 0
  pub too_many :
      (longest grant : ℕ) → longest ≤ max_length → max_plans < length (plans_in p longest) →
      search_plans F problem longest grant ≡ refused 44 0
  -- each answer exactly if it is so
  pub says :
      (longest grant : ℕ) → longest ≤ max_length → length (plans_in p longest) ≤ max_plans → (r : Search) →
      (search_plans F problem longest grant ≡ answered r) ↔ SearchSays (task_of F p) (plans_in p longest) grant r
  -- the plan found is right, and every plan before it is not
  pub found_first :
      (longest grant : ℕ) (q : List ℕ) (used : ℕ) → search_plans F problem longest grant ≡ answered (first_right q used) →
      IsShort (length p.actions) longest q × Right (task_of F p q) ×
      ((b : List ℕ) → IsShort (length p.actions) longest b → Earlier b q → NotRight (task_of F p) b)
  -- where it is undecided, every plan before that one is not right
  pub undecided_first :
      (longest grant : ℕ) (q : List ℕ) (used : ℕ) → search_plans F problem longest grant ≡ answered (undecided_at q used) →
      IsShort (length p.actions) longest q ×
      ((b : List ℕ) → IsShort (length p.actions) longest b → Earlier b q → NotRight (task_of F p) b)
  -- where none is right, no plan up to that length is
  pub none_is_right :
      (longest grant used : ℕ) → search_plans F problem longest grant ≡ answered (none_right used) →
      (b : List ℕ) → IsShort (length p.actions) longest b → NotRight (task_of F p) b
  -- a found or none answer stays the same under every larger grant
  pub larger_grant :
      (longest g g' : ℕ) → g ≤ g' → ((q : List ℕ) (used : ℕ) → search_plans F problem longest g ≢ answered (undecided_at q used)) →
      search_plans F problem longest g' ≡ search_plans F problem longest g

pub record Guarantees (F : Limits) : Type 0 where
  pub all_input : AllInput F
  -- of every task of the version
  pub verdicts : (T : Task) → TaskOk F T → Verdicts T
  pub certificates : (T : Task) → TaskOk F T → Certificates F T
  pub relevance : (T : Task) → TaskOk F T → Relevance T every_row
  pub sparse_relevance : (T : Task) → TaskOk F T → Relevance T fewer_rows
  pub same_facts : SameFacts
  pub searching : (problem : List ℕ) (p : Problem) → problem_of F problem ≡ answered p → Searching F problem p
