-- The answers of src/lib.rt: each operation returns a refusal or its value, and these say which answer of the definitions that is. The
-- contracts of the operations are equations between these and the definitions of Operations.
use Rattle.std.specs.Prelude.{ℕ, Result, Ok, Err}
use Rattle.model.specs.Answer.{Answer, refused, answered}
use Rattle.model.specs.Faults.{fault_number}
use Rattle.model.specs.Run as Run
use Rattle.model.specs.Walk as Walk
use Rattle.model.specs.Search as Search
use Rattle.model.specs.declared.Refusal.{Refusal}
use Rattle.model.specs.declared.Part.{Part}
use Rattle.model.specs.declared.Part.TheVariants.{Member, Fact}
use Rattle.model.specs.declared.Outcome.{Outcome}
use Rattle.model.specs.declared.Outcome.TheVariants.{Reached, Missed, Blocked}
use Rattle.model.specs.declared.Verdict.{Verdict}
use Rattle.model.specs.declared.Verdict.TheVariants.{Right, Wrong, Undecided}
use Rattle.model.specs.declared.Search as Declared
use Rattle.model.specs.declared.Search.TheVariants.{Found, NoneRight, Undecided as SearchUndecided}

-- a refusal by its number and its place
abbrev pub refusal : {A : Type 0} → Refusal → Answer A
refusal r = refused (fault_number r.fault) r.place

-- a refusal or a value, which `meaning` reads
abbrev pub result_answer : {A B : Type 0} → (A → B) → Result A Refusal → Answer B
result_answer meaning (Ok a) = answered (meaning a)
result_answer meaning (Err r) = refusal r

-- an answer whose value is one number, or the counts of a block, as they stand: what reading finds, the length of a list that was written,
-- the lines of one that passes, the end of a cover, or a set of start facts as the number of a state
abbrev pub plain_answer : {A : Type 0} → Result A Refusal → Answer A
plain_answer = result_answer (λ a. a)

-- what keeps an action from being applicable: a member of its precondition, or a fact
abbrev pub part : Part → Run.Part
part (Member m) = Run.at_member m
part (Fact f) = Run.at_fact f

-- how a run ends; a blocked one with its step, and the part of the action there
abbrev pub outcome : Outcome → Run.Outcome
outcome Reached = Run.reached
outcome Missed = Run.missed
outcome (Blocked s) = Run.blocked (record { step = s.step; part = part s.part })

abbrev pub run_answer : Result Outcome Refusal → Answer Run.Outcome
run_answer = result_answer outcome

-- what the judge says of a plan, with its numbers
abbrev pub verdict : Verdict → Walk.Verdict ℕ
verdict (Right ls a) = Walk.right ls a
verdict (Wrong s o a) = Walk.wrong s (outcome o) a
verdict (Undecided a) = Walk.undecided a

abbrev pub judge_answer : Result Verdict Refusal → Answer (Walk.Verdict ℕ)
judge_answer = result_answer verdict

-- what a search finds, with all visits that it used
abbrev pub search_end : Declared.Search → Search.Search
search_end (Found p a) = Search.first_right p a
search_end (NoneRight a) = Search.none_right a
search_end (SearchUndecided p a) = Search.undecided_at p a

abbrev pub search_answer : Result Declared.Search Refusal → Answer Search.Search
search_answer = result_answer search_end
