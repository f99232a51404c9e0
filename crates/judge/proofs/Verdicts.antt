-- The judge's verdict, by the walk of a whole task. Assumes nothing.
use Rattle.std.proofs.Common.{◌≡◌, refl, sym, ap, ◌∙◌, List, ℕ, ◌-◌, ◌≤◌, arith, Ok, Err}
use Rattle.model.specs.{Answer.Answer, Answer.answered, Case.Task, Case.run_of, Case.IsState}
use Rattle.model.specs.Walk.{Line, covered, failed, visits, walked, right, wrong, judged}
use Rattle.model.specs.{Operations.line_count, Operations.judge_read, Answers.refusal, declared.Outcome.Outcome}
use Rattle.model.specs.{declared.Refusal.Refusal, declared.Verdict.TheVariants.Right, declared.Verdict.TheVariants.Wrong, declared.Verdict.TheVariants.Undecided}
use Rattle.model.specs.Answer as Answer
use Rattle.model.specs.Answers as Answers
use Rattle.model.proofs.{Laws.Verdicts.walk-fails-first, Laws.Judging.judged-in, Laws.Judging.judged-out}
use Rattle.walk.specs.{declared.visits.Closed.Closed, declared.visits.Stopped.TheVariants.OutOfVisits, declared.visits.Stopped.TheVariants.Failed, Walks.Walks}
use Rattle.judge.specs.Verdicts.{JudgesTask}

-- ---- the verdict

module _ {L : Type 0} (puts : L → List Line → L → Type 0) (T : Task) (n≤w : T.facts ≤ T.width) (g : ℕ) (old new : L) where
  pub judges-right : (c : Closed) → Walks puts (walked T) g old (Ok c) new → JudgesTask puts T g old (Right c.lines (g - c.left)) new
  judges-right c W =
      let i = judged-in T n≤w g (covered W.closed (g - c.left)) W.is (omega (arith, ap visits W.is)) in
      record {
        closed = W.closed;
        put = W.put;
        answer = ap (λ (m : ℕ). right m (g - c.left)) W.counted.1 ∙ sym (ap line_count i);
        lines = rw i refl;
      }

  pub judges-undecided : Walks puts (walked T) g old (Err OutOfVisits) new → JudgesTask puts T g old (Undecided g) new
  judges-undecided W =
      let i = judged-out T n≤w g W.is in
      record { closed = W.closed; put = W.put; answer = sym (ap line_count i); lines = rw i tt }

  module _ (x left : ℕ) (W : Walks puts (walked T) g old (Err (Failed x left)) new) where
    -- the walk fails at a state
    pub fails-at-state : IsState T x
    fails-at-state = (walk-fails-first T n≤w x (g - left) W.is).start.state

    pub judges-wrong : (u : Outcome) → Answers.outcome u ≡ run_of T x → JudgesTask puts T g old (Wrong x u (g - left)) new
    judges-wrong u e =
        let a = g - left in
        let i = judged-in T n≤w g (failed x a) W.is (omega (arith, ap visits W.is)) in
        record { closed = W.closed; put = W.put; answer = ap (λ o. wrong x o a) e ∙ sym (ap line_count i); lines = rw i tt }

-- ---- what was read

pub judge-refused : (R : Answer Task) (y : Refusal) → R ≡ refusal y → (g : ℕ) → refusal y ≡ judge_read R g
unfolding judge_read Answer.◌>>=◌
judge-refused R y e g = rw e

pub judge-found : (R : Answer Task) (T : Task) → R ≡ answered T → (g : ℕ) → answered (line_count (judged T g)) ≡ judge_read R g
unfolding judge_read Answer.◌>>=◌
judge-found R T e g = rw e
