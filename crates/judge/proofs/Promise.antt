-- What an answer of `judge` promises: from the equation with the definition and the theorem about the definitions. Assumes nothing.
use Rattle.std.proofs.Common.{◌≡◌, sym, inl, inr, ℕ}
use Rattle.model.specs.{declared.Limits.Limits, Answer.Answer, Answer.refused, Answer.answered, Case.Task, Walk.Verdict}
use Rattle.model.specs.{Operations.judge_read, WellFormed.Sensible, WellFormed.ReadOk}
use Rattle.model.proofs.{Laws.Tasks.answer-then, Laws.Tasks.refusal-of, Guarantees.guarantees-hold}
use Rattle.judge.specs.Promise.{JudgePromised}

pub judge-promised :
    (F : Limits) → Sensible F → (R : Answer Task) → ReadOk F R → (g : ℕ) (r : Answer (Verdict ℕ)) → r ≡ judge_read R g → JudgePromised R g r
unfolding judge_read
judge-promised F S R ok g (refused n q) e = elim (refusal-of R (sym e)) [ inl h ↦ h | inr (T, h, k) ↦ absurd (cc) ]
judge-promised F S R ok g (answered v) e =
    answer-then (sym e) λ T h k. (T, h, ((guarantees-hold F S).verdicts T (ok T h)).judge_says g v (rw h at (sym e)))
