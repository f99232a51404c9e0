-- The answers of `run`, from those of a task. Assumes nothing.
use Rattle.std.proofs.Common.{◌≡◌, refl, ◌∙◌, ℕ, Result}
use Rattle.model.specs.{declared.Outcome.Outcome, declared.Refusal.Refusal, Answer.Answer, Answer.answered}
use Rattle.model.specs.{Answers.refusal, Answers.outcome, Answers.run_answer, Kleene.three, Run.run, Case.Task}
use Rattle.model.specs.Operations.{state_answer, run_read}
use Rattle.model.specs.Answer as Answer
use Rattle.cases.specs.{declared.cases.Cases.Cases, Cases.case_of}
use Rattle.runs.specs.States.{HasState}
use Rattle.runs.proofs.States.{state-run}

module _ (T : Task) (s : ℕ) where
  pub answers-run : (c : Cases) → HasState T s c → (o : Outcome) → outcome o ≡ run three T.facts T.goal T.plan 0 (case_of c 0) → answered (outcome o) ≡ state_answer T s
  answers-run c H o e = rw (H.is, e ∙ state-run T s c H.cases) refl

module _ (R : Answer Task) (s : ℕ) where
  pub run-refused : (y : Refusal) → R ≡ refusal y → refusal y ≡ run_read R s
  unfolding run_read Answer.◌>>=◌
  run-refused y e = rw e

  pub run-found : {T : Task} (a : Result Outcome Refusal) → R ≡ answered T → run_answer a ≡ state_answer T s → run_answer a ≡ run_read R s
  unfolding run_read Answer.◌>>=◌
  run-found a e h = h ∙ rw e
