-- A plan that a text says is a sound one, for as many actions as there are names. Assumes nothing.
use Rattle.std.proofs.Common.{◌≡◌, List, ℕ, zero, suc, ◌≤◌, ◌<◌, length, eqb, codes, Option, Some, arith}
use Rattle.std.specs.Str.{bytes_eq}
use Rattle.model.specs.Limits.{max_steps}
use Rattle.model.specs.WellFormed.{Each, PlanOk}
use Rattle.words.specs.Words.{word}
use Rattle.make.specs.Parsed.{and_then, ◌>>=◌, done}
use Rattle.make.specs.SourceText.{steps, plan}
use Rattle.make.proofs.SoundParts.{Gives, gives, fails, reads, finds, either-way}
use Rattle.make.proofs.SoundFormulas.{index_is_below}

module _ (names : List (List ℕ)) where
  -- each step is an action's number, and there are so many at most
  pub steps_are_ok : (n : ℕ) (t : List ℕ) → Gives (steps names n t) (λ bs. Each (λ b. b < length names) bs × (length bs ≤ n))
  unfolding steps ◌>>=◌ and_then done
  steps_are_ok zero t = either-way (eqb (length (word t)) 0) _ _ (λ e. gives (tt, omega arith)) λ e. fails
  steps_are_ok (suc n) t =
      either-way (eqb (length (word t)) 0) _ _ (λ e. gives (tt, omega arith)) λ e.
      finds _ _ _ _ _ λ a i.
      reads (steps_are_ok n _) λ bs u (k, l). gives ((index_is_below names _ a i, k), omega arith)

  -- the plan, where there is one
  abbrev pub MaybePlanOk : Option (List ℕ) → Type 0
  MaybePlanOk o = (bs : List ℕ) → o ≡ Some bs → PlanOk (length names) bs

  -- a plan that is there is sound
  pub plan_is_ok : (t : List ℕ) → Gives (plan names t) MaybePlanOk
  unfolding plan and_then done
  plan_is_ok t =
      either-way (bytes_eq (word t) (codes "plan")) _ _
      (λ e. reads (steps_are_ok max_steps _) λ bs u (k, l). gives λ cs i.
      let same : bs ≡ cs = grind arith in
      rw (← same) (record { count = l; actions = k }))
      λ e. gives λ cs i. absurd (grind arith)
