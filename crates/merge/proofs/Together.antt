-- What holds of a merged problem. Assumes nothing.
use Rattle.std.proofs.Common.{List, ℕ, ◌+◌, subst, length}
use Rattle.model.specs.declared.Limits.{Limits}
use Rattle.model.specs.Limits.{version2, limits_of}
use Rattle.model.specs.ProblemBytes.{Problem}
use Rattle.model.specs.WellFormed.{Bytes, PlanOk, ProblemOk, Sensible}
use Rattle.model.specs.Merging.{halls}
use Rattle.model.proofs.Guarantees.{guarantees-of, limits-sensible, guarantees-hold, version2-sensible}
use Rattle.merge.specs.Beside.{BothHalls}
use Rattle.merge.specs.Promise.{Reads, KeepsBoth}
use Rattle.merge.proofs.Pairs.{runs-beside}
use Rattle.merge.proofs.Sound.{halls-count, halls-sound, halls-sized}
use Rattle.merge.proofs.Steps.{numbered, first-action, second-action}

module _ (F G : Limits) (S : Sensible F) (S' : Sensible G) (p q : Problem) (ok : ProblemOk F p) (ok' : ProblemOk G q) where
  pub both-halls : BothHalls F G p q
  both-halls =
      record {
        exactly = (halls-sound F G S S' p q ok ok', halls-sized F G S S' p q ok ok');
        holds = λ e.
            let sound = halls-sound F G S S' p q ok ok' e in
            record {
              sound = sound;
              read = (guarantees-hold version2 version2-sensible).all_input.problem_accepted (halls p q) sound;
              numbered = numbered (length p.actions + length q.actions);
              first_action = first-action p q;
              second_action = second-action p q;
              plans = λ plan h. runs-beside F G S S' p q ok ok' sound plan (subst (λ (n : ℕ). PlanOk n plan) (halls-count p q) h);
            };
      }

-- two problems that are read are sound
module _ (first second : List ℕ) (b : Bytes first) (b' : Bytes second) (p q : Problem) (r : Reads first second p q) where
  pub first-sound : ProblemOk (limits_of first) p
  first-sound = ((guarantees-of first).all_input.problem_sound first b p r.reads_first).0

  pub second-sound : ProblemOk (limits_of second) q
  second-sound = ((guarantees-of second).all_input.problem_sound second b' q r.reads_second).0

  pub holds-of-both : BothHalls (limits_of first) (limits_of second) p q
  holds-of-both = both-halls (limits_of first) (limits_of second) (limits-sensible first) (limits-sensible second) p q first-sound second-sound

pub keeps-both : (first second : List ℕ) → KeepsBoth first second
keeps-both first second b b' p q r = holds-of-both first second b b' p q r
