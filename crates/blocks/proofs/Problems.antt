-- A problem by its formulas and by the actions that end its block. Assumes nothing.
use Rattle.std.proofs.Common.{arith, ◌≡◌, refl, ℕ, List, length, leb}
use Rattle.model.specs.{declared.Limits.Limits, Answer.Answer, Answer.refused, Answer.answered, Formula.Formula, Action.Action}
use Rattle.model.specs.Read.{Read, reject, got, and_then, ◌>>=◌, ◌>>◌, done, position, require, answer_of}
use Rattle.model.specs.ProblemBytes.{Problem, actions, ending}
use Rattle.blocks.specs.Actions.{last_actions}

module _ (F : Limits) (s : List ℕ) (facts m : ℕ) (f g : Formula) where
  abbrev with_actions : Answer (List Action) → Answer Problem
  with_actions (refused n q) = refused n q
  with_actions (answered as') = answered (record { facts = facts; initial = f; goal = g; actions = as' })

  -- the problem is read where the actions are
  pub ending-by : (p : ℕ) → answer_of (ending F s facts m f g p) ≡ with_actions (answer_of (last_actions F s facts m p))
  unfolding ending last_actions ◌>>=◌ ◌>>◌ and_then done position require answer_of
  ending-by p = read (actions F s facts m p)
    where
      read : (x : Read (List Action)) →
          answer_of (and_then x (λ as' q. and_then (require (leb (length s) q) 25 q q) (λ u r. got (record { facts = facts; initial = f; goal = g; actions = as' }) r))) ≡
          with_actions (answer_of (and_then x (λ as' q. and_then (require (leb (length s) q) 25 q q) (λ u r. got as' r))))
      read (reject n q) = refl
      read (got as' q) = grind arith
