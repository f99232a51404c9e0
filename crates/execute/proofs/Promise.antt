-- What an answer of `run` promises: from the equation with the definition and the theorem about the definitions. Assumes nothing.
use Rattle.std.proofs.Common.{◌≡◌, sym, ap, ◌∙◌, inl, inr, ℕ}
use Rattle.model.specs.{declared.Limits.Limits, Answer.Answer, Answer.refused, Answer.answered, Run.Outcome, Case.Task}
use Rattle.model.specs.{Operations.run_read, WellFormed.Sensible, WellFormed.ReadOk}
use Rattle.model.proofs.{Laws.Tasks.answer-then, Laws.Tasks.refusal-of, Laws.Tasks.state-tested, Guarantees.guarantees-hold}
use Rattle.execute.specs.Promise.{RunPromised}

pub run-promised : (F : Limits) → Sensible F → (R : Answer Task) → ReadOk F R → (s : ℕ) (r : Answer Outcome) → r ≡ run_read R s → RunPromised R s r
unfolding run_read
run-promised F S R ok s (refused n q) e =
    elim (refusal-of R (sym e)) [
      | inl h ↦ inl h
      | inr (T, h, k) ↦ elim (state-tested T s) [ inl y ↦ let z = rw y.1 at k in absurd (cc) | inr y ↦ let z = rw y.1 at k in inr (T, h, y.0, cc, cc) ]
    ]
run-promised F S R ok s (answered r) e =
    answer-then (sym e) λ T h k.
    elim (state-tested T s) [
      | inl y ↦ (
        T,
        h,
        y.0,
        λ o.
            let m = ((guarantees-hold F S).verdicts T (ok T h)).run_says s y.0 o in
            ((λ l. m.0 ((rw h at (sym e)) ∙ ap answered l)), λ l. let i = m.1 l in let z = rw h at e in cc),
      )
      | inr y ↦ let z = rw y.1 at k in absurd (cc)
    ]
