-- The promise: from the equations with the definition and the theorem about the definitions. Assumes nothing.
use Rattle.std.proofs.Common.{◌≡◌, refl, sym, ap, ◌∙◌, inl, inr, List, ℕ, ◌≤◌, take, drop}
use Rattle.model.specs.{declared.Limits.Limits, Answer.Answer, Answer.refused, Answer.answered, Case.Task, Relevance.Layout}
use Rattle.model.specs.Operations.{Written, run_read, reached_read, relevant_read}
use Rattle.model.specs.WellFormed.{Sensible, ReadOk}
use Rattle.model.specs.Answer as Answer
use Rattle.model.proofs.Laws.Tasks.{run_no_state}
use Rattle.model.proofs.Laws.Tracing.{Traced, no_state, unreached, short, found, traced, Keeps, relevances}
use Rattle.model.proofs.Laws.Lists.{n≤w}
use Rattle.relevance.specs.Promise.{RelevantPromised}
use Rattle.relevance.proofs.Answers.{Leaves}

module _ (L : Layout) (keeps : (T : Task) → T.facts ≤ T.width → Keeps T L) (F : Limits) (S : Sensible F) (s : ℕ) (before : List ℕ) where
  module _ (T : Task) (fits : T.facts ≤ T.width) where
    abbrev here : Written
    here = relevant_read L (answered T) s before

    by-case : (w : Written) → w ≡ here → Traced L T s before w → RelevantPromised L (answered T) s before w.answer w.buffer
    by-case w e (no_state k) = (refl, inl (run_no_state T s k))
    by-case w e (unreached st k) = (refl, inr (inl (T, record { read = refl; state = st }, k, refl, refl)))
    by-case w e (short st r l) = (refl, inr (inr (T, record { read = refl; state = st }, r, l, refl, refl)))
    by-case w e (found st r l) =
        let R = relevances L T fits (keeps T fits) in
        let i : here.answer ≡ _ = ap (λ x. x.answer) (sym e) in
        let k = ap (λ x. x.buffer) e in
        let (held, rest) = R.work_holds s before _ i in (
          T,
          record {
            runs = record { read = refl; state = st };
            is_reached = r;
            is_state = R.is_state s before _ i;
            each_bit = R.each_bit s before _ i;
            reached_too = R.reached_too s before _ i;
            fits = l;
            holds = ap (take (L.need T)) k ∙ held;
            rest = ap (drop (L.need T)) k ∙ rest;
          },
        )

  promised-for : (R : Answer Task) → ReadOk F R → RelevantPromised L R s before (relevant_read L R s before).answer (relevant_read L R s before).buffer
  unfolding relevant_read reached_read run_read Answer.◌>>=◌
  promised-for (refused n q) ok = (refl, inl refl)
  promised-for (answered T) ok = let l = n≤w F S T (ok T refl) in by-case T l (here T l) refl (traced L T s before)

  pub relevant-promised : (R : Answer Task) → ReadOk F R → {a : Answer ℕ} {after : List ℕ} → Leaves L R s before a after → RelevantPromised L R s before a after
  relevant-promised R ok (e, k) = rw (e, k) (promised-for R ok)
