-- What is proved of the definitions. Each record is the contract of a function of src/theorems.rt, so that no check passes without it.
use Rattle.std.specs.Prelude.{◌≡◌, List, ℕ}
use Rattle.model.specs.declared.Limits.{Limits}
use Rattle.model.specs.Limits.{version1, version2, limits_of}
use Rattle.model.specs.Kleene.{two, three}
use Rattle.model.specs.Action.{OrderFree}
use Rattle.model.specs.Soundness.{KleeneSound}
use Rattle.model.specs.Walk.{Look}
use Rattle.model.specs.Cover.{RunningEnd}
use Rattle.model.specs.ProblemBytes.{Problem, encode_problem}
use Rattle.model.specs.WellFormed.{Sensible}
use Rattle.model.specs.Guarantees.{Guarantees}
use Rattle.model.specs.Trials.{Hold, starred, P_no_start, P2_no_start, NoStart, one_line, one_line2, edges, DeskGrant, unmet_members, conflicts, running_ends, relevances, sparse_relevances, searches, versions, merge_rows}

pub record Theorems : Type 0 where
  -- all input, verdicts, certificates, relevant facts and search, of every version whose numbers are sensible
  pub guarantees : (F : Limits) → Sensible F → Guarantees F
  -- both versions are such, and so they hold of each
  pub version1_sensible : Sensible version1
  pub version1_guarantees : Guarantees version1
  pub version2_sensible : Sensible version2
  pub version2_guarantees : Guarantees version2
  -- and so of the version that a problem's block begins with, whatever its bytes are
  pub guarantees_of : (problem : List ℕ) → Guarantees (limits_of problem)
  -- a sound problem of either version begins with it
  pub begins_with_1 : (p : Problem) → limits_of (encode_problem version1 p) ≡ version1
  pub begins_with_2 : (p : Problem) → limits_of (encode_problem version2 p) ≡ version2
  -- what reading a formula in a case says of its states, for every width and fact count
  pub kleene : (w n : ℕ) → KleeneSound w n
  -- the running value of the cover, for every width, fact count and look
  pub running_ends : (w : ℕ) (look : ℕ → ℕ → Look) (n : ℕ) → RunningEnd w look n
  -- a step that is taken sets and clears no fact at once, in states and in cases
  pub free_in_states : OrderFree two
  pub free_in_cases : OrderFree three

-- the tables of Trials, and the two statements that no row can make, of both versions
pub record TrialsHold : Type 0 where
  pub starred : Hold starred
  pub no_start : NoStart version1 P_no_start one_line × NoStart version2 P2_no_start one_line2
  pub edges : Hold edges
  pub desk_grant : DeskGrant version1 × DeskGrant version2
  pub members : Hold unmet_members
  pub conflicts : Hold conflicts
  pub running_ends : Hold running_ends
  pub relevances : Hold relevances
  pub sparse_relevances : Hold sparse_relevances
  pub searches : Hold searches
  pub versions : Hold versions
  pub merges : Hold merge_rows
