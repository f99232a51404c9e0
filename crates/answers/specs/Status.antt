-- The status that the program exits with.
use Rattle.std.specs.Prelude.{ℕ, Result, Ok, Err}
use Rattle.model.specs.declared.Refusal.{Refusal}
use Rattle.model.specs.Answers.{outcome, verdict, search_end}
use Rattle.model.specs.Run.{Outcome, reached, missed, blocked}
use Rattle.model.specs.Walk.{Verdict, right, wrong, undecided}
use Rattle.model.specs.Search.{Search, first_right, none_right, undecided_at}
use Rattle.answers.specs.declared.answer.Answer.{Answer}
use Rattle.answers.specs.declared.answer.Answer.TheVariants.{Judged, Written, Followed, Ran, Rests, Searched}
use Rattle.answers.specs.Rows.{fault_row}
use Rattle.answers.specs.declared.status.Status.{Status}
use Rattle.answers.specs.declared.status.Status.TheVariants.{Yes, No, Undecided, Malformed, Unwritten, Usage}

-- the number of a status
abbrev pub status_number : Status → ℕ
status_number Yes = 0
status_number No = 1
status_number Undecided = 2
status_number Malformed = 3
status_number Unwritten = 4
status_number Usage = 64

abbrev pub verdict_status : Verdict ℕ → Status
verdict_status (right lines a) = Yes
verdict_status (wrong s o a) = No
verdict_status (undecided a) = Undecided

abbrev pub outcome_status : Outcome → Status
outcome_status reached = Yes
outcome_status missed = No
outcome_status (blocked s) = No

abbrev pub search_status : Search → Status
search_status (first_right p a) = Yes
search_status (none_right a) = No
search_status (undecided_at p a) = Undecided

-- exit statuses
abbrev pub answer_status : Answer → Status
answer_status (Judged v) = verdict_status (verdict v)
answer_status (Written bytes) = Yes
answer_status (Followed lines) = Yes
answer_status (Ran o) = outcome_status (outcome o)
answer_status (Rests set) = Yes
answer_status (Searched s) = search_status (search_end s)

abbrev pub status_of : Result Answer Refusal → Status
status_of (Ok a) = answer_status a
status_of (Err r) = (fault_row r.fault).status
