-- What verdicts guarantee, for the definitions of the judge and the run. Assumes nothing.
use Rattle.model.proofs.Words.{arith, inl, inr, List, ℕ, ◌≤◌, length, Task, run_of, Line, covered, failed, Verdict, walked, judge_read, line_count, Says, Verdicts}
use Rattle.model.specs.Answer as Answer
use Rattle.model.proofs.Laws.Verdicts.{Means, judged-means, right-closes, larger_grant, walk-closes-right, walk_ends}
pub use Rattle.model.proofs.Laws.Verdicts.{judged-in, judged-out}
use Rattle.model.proofs.Laws.Beliefs.{outcome-means, solution-right}
use Rattle.model.proofs.Laws.Tasks.{run-answers, run_no_state}

module _ (T : Task) (n≤w : T.facts ≤ T.width) where
  -- what a verdict with its lines means, it says with their count
  counted : (g : ℕ) (v : Verdict (List Line)) → Means T n≤w g (walked T) v → Says T g (line_count v)
  unfolding run_of
  counted g v m = grind (arith, outcome-means, solution-right)

  pub verdicts : Verdicts T
  unfolding run_of judge_read Answer.◌>>=◌
  verdicts =
      record {
        judge_says = λ g v e. grind (arith, counted, judged-means);
        right_is_solution = ((solution-right T n≤w).1, (solution-right T n≤w).0);
        called_right =
            λ g h r.
            let (ls, a, e) = right-closes T n≤w r in
            (length ls, rw (judged-in T n≤w g (covered ls a) e h, e));
        called_wrong =
            λ g h nr.
            elim (walk_ends (walked T)) [
              | inl (ls, a, e) ↦ absurd (nr (walk-closes-right T n≤w ls a e))
              | inr (s, a, e) ↦ (s, run_of T s, rw (judged-in T n≤w g (failed s a) e h, e))
            ];
        called_undecided = λ g h. rw (judged-out T n≤w g h);
        no_start = λ h s st. absurd (h s st);
        larger_grant = λ g g' h d. grind (arith, (larger_grant T n≤w g g' h));
        run_says = λ s h o. grind (arith, outcome-means, (run-answers T));
        run_no_state = run_no_state T;
      }
