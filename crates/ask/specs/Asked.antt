-- A command's answer is that of its operation, for the bytes of its files and the numbers of its command line.
use Rattle.std.specs.Prelude.{◌≡◌, List, ℕ, Result, Ok, Err}
use Rattle.model.specs.declared.Refusal.{Refusal}
use Rattle.model.specs.declared.Outcome.{Outcome}
use Rattle.model.specs.declared.Verdict.{Verdict}
use Rattle.model.specs.declared.Search.{Search}
use Rattle.model.specs.Limits.{limits_of}
use Rattle.model.specs.Relevance.{every_row}
use Rattle.model.specs.Operations.{read_both}
use Rattle.model.specs.Calls.{RunCall, JudgeCall, WriteCall, FollowCall, RelevantCall, SearchCall}
use Rattle.answers.specs.declared.answer.Answer.{Answer}
use Rattle.answers.specs.declared.answer.Answer.TheVariants.{Judged, Written, Followed, Ran, Rests, Searched}
use Rattle.ask.specs.declared.question.Question.{Question}
use Rattle.ask.specs.declared.question.Question.TheVariants.{Judge, Write, Follow, Run, Rest, Search as Searches}

-- what an operation answered, as the answer of a command
abbrev pub as_answer : {A : Type 0} → (A → Answer) → Result A Refusal → Result Answer Refusal
as_answer answer (Ok a) = Ok (answer a)
as_answer answer (Err r) = Err r

-- answers of commands: a question is answered as the call of its operation is, and the lent buffer is left as that leaves it
abbrev pub Asked : Question → List ℕ → Result Answer Refusal → List ℕ → Type 0
Asked (Judge t grant) before r after =
    (v : Result Verdict Refusal) × JudgeCall (read_both t.problem.now t.plan.now) grant v × (r ≡ as_answer Judged v) × (after ≡ before)
Asked (Write t grant) before r after =
    (n : Result ℕ Refusal) × WriteCall (read_both t.problem.now t.plan.now) (limits_of t.problem.now) grant before n after × (r ≡ as_answer Written n)
Asked (Follow t list) before r after =
    (n : Result ℕ Refusal) × FollowCall (read_both t.problem.now t.plan.now) (limits_of t.problem.now) list.now n × (r ≡ as_answer Followed n) × (after ≡ before)
Asked (Run t s) before r after =
    (o : Result Outcome Refusal) × RunCall (read_both t.problem.now t.plan.now) s o × (r ≡ as_answer Ran o) × (after ≡ before)
Asked (Rest t s) before r after =
    (n : Result ℕ Refusal) × RelevantCall (read_both t.problem.now t.plan.now) every_row s before n after × (r ≡ as_answer Rests n)
Asked (Searches problem longest grant) before r after =
    (e : Result Search Refusal) × SearchCall problem.now longest grant e × (r ≡ as_answer Searched e) × (after ≡ before)
