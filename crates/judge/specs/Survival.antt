-- What becomes of an answer when the question is put again: with a larger grant, or to a problem with a narrower start. Each statement is about the
-- answers of two calls of the code, `first` and `second`, of which nothing is known but that they are such calls.
use Rattle.std.specs.Prelude.{◌≡◌, ◌≢◌, ◌⊎◌, Bool, List, ℕ, ◌≤◌, ◌<◌, Result}
use Rattle.model.specs.Kleene.{Kleene, No, three}
use Rattle.model.specs.Formula.{Formula, eval}
use Rattle.model.specs.declared.Limits.{Limits}
use Rattle.model.specs.Limits.{limits_of}
use Rattle.model.specs.Answer.{Answer, refused, answered}
use Rattle.model.specs.Run as Run
use Rattle.model.specs.Case.{Task, Right}
use Rattle.model.specs.Relevance.{every_row, fewer_rows}
use Rattle.model.specs.Operations.{read_both}
use Rattle.model.specs.Belief.{initial_belief}
use Rattle.model.specs.Walk as Walk
use Rattle.model.specs.Walk.{right, wrong, undecided}
use Rattle.model.specs.Search as Search
use Rattle.model.specs.Search.{first_right, none_right, undecided_at, Earlier}
use Rattle.model.specs.ProblemBytes.{Problem, problem_of}
use Rattle.model.specs.Answers.{plain_answer, run_answer, judge_answer, search_answer}
use Rattle.model.specs.Calls.{RunCall, JudgeCall, WriteCall, FollowCall, RelevantCall, SearchCall}
use Rattle.model.specs.declared.Refusal.{Refusal}
use Rattle.model.specs.declared.Outcome.{Outcome}
use Rattle.model.specs.declared.Verdict.{Verdict}
use Rattle.model.specs.declared.Search.{Search}

-- every answer of the judge but undecided: right, wrong, or a refusal
abbrev pub Decided : Answer (Walk.Verdict ℕ) → Type 0
Decided (refused n q) = Unit {0}
Decided (answered (right lines used)) = Unit {0}
Decided (answered (wrong s o used)) = Unit {0}
Decided (answered (undecided used)) = ⊥

-- right, with any lines and visits
abbrev pub IsRight : Answer (Walk.Verdict ℕ) → Type 0
IsRight (refused n q) = ⊥
IsRight (answered (right lines used)) = Unit {0}
IsRight (answered (wrong s o used)) = ⊥
IsRight (answered (undecided used)) = ⊥

-- every answer of a search but undecided: the first right plan, that none is right, or a refusal
abbrev pub Settled : Answer Search.Search → Type 0
Settled (refused n q) = Unit {0}
Settled (answered (first_right p used)) = Unit {0}
Settled (answered (none_right used)) = Unit {0}
Settled (answered (undecided_at p used)) = ⊥

-- ---- a larger grant

-- what stays when a task, or the refusal that it was read with, is asked again with a larger grant
pub record LargerGrant (F : Limits) (R : Answer Task) (grant larger : ℕ) : Type 0 where
  -- a right or wrong verdict, with its lines, or its state and where that fails, and its visits
  pub judged :
      (first second : Result Verdict Refusal) → JudgeCall R grant first → JudgeCall R larger second →
      Decided (judge_answer first) → judge_answer second ≡ judge_answer first
  -- a list that was written, and every refusal but 50, with every byte of the buffer
  pub written :
      (out : List ℕ) (first second : Result ℕ Refusal) (after again : List ℕ) → WriteCall R F grant out first after →
      WriteCall R F larger out second again → plain_answer first ≢ refused 50 grant →
      (plain_answer second ≡ plain_answer first) × (again ≡ after)

-- the plan that a search found, or that none is right, with the visits
abbrev pub SearchedAgain : List ℕ → ℕ → ℕ → Type 0
SearchedAgain problem grant larger =
    (longest : ℕ) (first second : Result Search Refusal) → SearchCall problem longest grant first → SearchCall problem longest larger second →
    Settled (search_answer first) → search_answer second ≡ search_answer first

-- ---- a narrower start

-- two problems, as they are read, differ in their initial formula alone, and each start state of the second is one of the first
pub record NarrowerStart (problem narrower : List ℕ) : Type 0 where
  pub first : Problem
  pub second : Problem
  pub reads_first : problem_of (limits_of problem) problem ≡ answered first
  pub reads_second : problem_of (limits_of narrower) narrower ≡ answered second
  pub facts : second.facts ≡ first.facts
  pub goal : second.goal ≡ first.goal
  pub actions : second.actions ≡ first.actions
  pub starts : (s : List Bool) → initial_belief second.facts second.initial s → initial_belief first.facts first.initial s

-- where the one formula reads no, in whatever case, the other does; so an "all" that has got more members does beside what it was
abbrev pub ReadsNoToo : Formula → Formula → Type 0
ReadsNoToo φ ψ = (c : List Kleene) → eval three c φ ≡ No → eval three c ψ ≡ No

-- what a plan that is right for the first problem is for the second, and what the answers to the first say of those to the second
pub record Narrowed (problem narrower : List ℕ) : Type 0 where
  -- it stays right
  pub right :
      (plan : List ℕ) (T : Task) → read_both problem plan ≡ answered T → Right T →
      (T' : Task) × (read_both narrower plan ≡ answered T') × Right T'
  -- and is called right, under whatever grant, whenever that judgement is decided
  pub judged :
      (plan : List ℕ) (T : Task) (grant : ℕ) (second : Result Verdict Refusal) → read_both problem plan ≡ answered T →
      JudgeCall (read_both narrower plan) grant second → Right T → Decided (judge_answer second) → IsRight (judge_answer second)
  -- no list of it is refused since it is wrong
  pub written :
      (plan out : List ℕ) (T : Task) (grant : ℕ) (second : Result ℕ Refusal) (after : List ℕ) → read_both problem plan ≡ answered T →
      WriteCall (read_both narrower plan) (limits_of narrower) grant out second after → Right T → (used : ℕ) → plain_answer second ≢ refused 51 used
  -- where a search finds a plan, the other, if it is decided, finds one, and none later
  pub searched :
      (longest grant other : ℕ) (first second : Result Search Refusal) → SearchCall problem longest grant first →
      SearchCall narrower longest other second → (p : List ℕ) (used : ℕ) → search_answer first ≡ answered (first_right p used) →
      Settled (search_answer second) →
      (q : List ℕ) × (used' : ℕ) × (search_answer second ≡ answered (first_right q used')) × (Earlier p q → ⊥)
  -- a list that passes shows the plan right for the second too
  pub shown :
      (plan list : List ℕ) (lines other : ℕ) (first : Result ℕ Refusal) (second : Result Verdict Refusal) → FollowCall (read_both problem plan) (limits_of problem) list first →
      JudgeCall (read_both narrower plan) other second → plain_answer first ≡ answered lines → Decided (judge_answer second) → IsRight (judge_answer second)

-- What further holds where the blocks of the two problems are of one version
pub record NarrowedAlike (problem narrower : List ℕ) (N : NarrowerStart problem narrower) : Type 0 where
  -- a list that passes for the first need not pass for the second; but no fault of it is other than a claim that is not so
  pub followed :
      (plan list : List ℕ) (lines : ℕ) (first second : Result ℕ Refusal) → FollowCall (read_both problem plan) (limits_of problem) list first →
      FollowCall (read_both narrower plan) (limits_of narrower) list second → plain_answer first ≡ answered lines →
      (plain_answer second ≡ answered lines) ⊎ ((i : ℕ) × (i < lines) × (plain_answer second ≡ refused 69 i))
  -- where the second formula reads no wherever the first does, the grant that sufficed does so again, with no more lines and visits
  pub judged_within :
      ReadsNoToo N.first.initial N.second.initial → (plan : List ℕ) (grant lines used : ℕ) (first second : Result Verdict Refusal) →
      JudgeCall (read_both problem plan) grant first → JudgeCall (read_both narrower plan) grant second → judge_answer first ≡ answered (right lines used) →
      (lines' used' : ℕ) × (judge_answer second ≡ answered (right lines' used')) × (lines' ≤ lines) × (used' ≤ used)
  -- where the plan is wrong for both, the state that fails is no lower for the second
  pub fails_no_lower :
      (plan : List ℕ) (grant other : ℕ) (first second : Result Verdict Refusal) → JudgeCall (read_both problem plan) grant first →
      JudgeCall (read_both narrower plan) other second → (s t used used' : ℕ) (o o' : Run.Outcome) → judge_answer first ≡ answered (wrong s o used) →
      judge_answer second ≡ answered (wrong t o' used') → s ≤ t
  -- what the run of one state gives, and the facts that it rests on, have no part in the start: the same answer, and the same bytes
  pub run_alike :
      (plan : List ℕ) (s : ℕ) (first second : Result Outcome Refusal) → RunCall (read_both problem plan) s first → RunCall (read_both narrower plan) s second →
      run_answer second ≡ run_answer first
  pub told :
      (plan : List ℕ) (s : ℕ) (work : List ℕ) (first second : Result ℕ Refusal) (after again : List ℕ) →
      RelevantCall (read_both problem plan) every_row s work first after → RelevantCall (read_both narrower plan) every_row s work second again →
      (plain_answer second ≡ plain_answer first) × (again ≡ after)
  pub told_sparsely :
      (plan : List ℕ) (s : ℕ) (work : List ℕ) (first second : Result ℕ Refusal) (after again : List ℕ) →
      RelevantCall (read_both problem plan) fewer_rows s work first after → RelevantCall (read_both narrower plan) fewer_rows s work second again →
      (plain_answer second ≡ plain_answer first) × (again ≡ after)
