-- The steps of a run: the rows of its states, and whether it goes on.
use Rattle.std.specs.Prelude.{◌≡◌, Bool, true, false, not, ◌&&◌, ◌||◌, List, ◌++◌, map, ℕ, ◌+◌, length, get_or, take, Option, Some, None}
use Rattle.std.proofs.lemmas.List.Edits.{sets}
use Rattle.model.specs.Kleene.{known, two}
use Rattle.model.specs.Formula.{Formula}
use Rattle.model.specs.Action.{Action, tabulate, applicable, step}
use Rattle.model.specs.Run.{Outcome, reached, missed, blocked, run}
use Rattle.model.specs.Case.{flag, Task}
use Rattle.model.specs.Relevance.{states, rows}
use Rattle.cases.specs.declared.cases.Cases.{Cases}
use Rattle.cases.specs.Cases.{case_of}
use Rattle.backward.specs.declared.changes.Changes.{Changes}
use Rattle.backward.specs.declared.matters.Mark.{Mark}
use Rattle.backward.specs.Facts.{has_fact}
use Rattle.backward.specs.Marks.{IsMark, Marked, state_at}

-- lane 0 has the state st
abbrev pub Shows : Cases → List Bool → Type 0
Shows c st = case_of c 0 ≡ map known st

-- the state st of n facts, with the changes
abbrev pub changed : Changes → ℕ → List Bool → List Bool
changed x n st = tabulate n (λ g. has_fact x.set g || (get_or st g false && not (has_fact x.cleared g)))

-- from a state in lane 0, with its row, to the changed one
abbrev pub Makes : Changes → Cases → List ℕ → Cases → List ℕ → Type 0
Makes x c row d row' = (st : List Bool) → Shows c st → row ≡ map flag st → Shows d (changed x c.facts st) × (row' ≡ map flag (changed x c.facts st))

-- the action is taken in the state st
pub record Taken (a : Action) (n : ℕ) (st : List Bool) (d : Cases) (row : List ℕ) (k : Mark) : Type 0 where
  pub applies : applicable two n a st ≡ true
  pub shown : Shows d (step two n a st)
  pub own_row : row ≡ map flag (step two n a st)
  pub mark : IsMark a st k

-- the action is taken from the state in lane 0, with its row, or it is not applicable there
abbrev pub Takes : Action → Cases → List ℕ → Cases → List ℕ → Option Mark → Type 0
Takes a c row d row' None = (st : List Bool) → Shows c st → applicable two c.facts a st ≡ false
Takes a c row d row' (Some k) = (st : List Bool) → Shows c st → row ≡ map flag st → Taken a c.facts st d row' k

-- whether a run ends so
abbrev pub is_reached : Outcome → Bool
is_reached reached = true
is_reached missed = false
is_reached (blocked p) = false

-- the steps of T are all taken from the state st: the states before them have become rows, and whatever more steps and goal there are, a run
-- goes on from the state after them
pub record AllTaken (T : Task) (st : List Bool) (before : List ℕ) (d : Cases) (after : List ℕ) (ms : List Mark) : Type 0 where
  pub put : after ≡ sets before 0 (rows (take (length T.plan) (states T.facts T.plan st)))
  pub shown : Shows d (state_at T st (length T.plan))
  pub marked : Marked T st ms
  pub goes_on :
      (goal : Formula) (more : List Action) (i : ℕ) →
      run two T.facts goal (T.plan ++ more) i st ≡ run two T.facts goal more (i + length T.plan) (state_at T st (length T.plan))

-- one cannot be taken: no run that begins with them is reached
abbrev pub Stops : Task → List Bool → Type 0
Stops T st = (goal : Formula) (more : List Action) (i : ℕ) → is_reached (run two T.facts goal (T.plan ++ more) i st) ≡ false

abbrev pub TakesSteps : Task → Cases → List ℕ → Cases → List ℕ → List Mark → Bool → Type 0
TakesSteps T c before d after ms true = (st : List Bool) → length st ≡ T.facts → Shows c st → AllTaken T st before d after ms
TakesSteps T c before d after ms false = (st : List Bool) → length st ≡ T.facts → Shows c st → Stops T st

-- the states of the run from the state in lane 0 stand in the first rows, and its steps are marked, if it is reached
abbrev pub PutsRun : Task → Cases → List ℕ → List ℕ → List Mark → Type 0
PutsRun T c before after ms =
    (st : List Bool) → length st ≡ T.facts → Shows c st → run two T.facts T.goal T.plan 0 st ≡ reached →
    (after ≡ sets before 0 (rows (states T.facts T.plan st))) × Marked T st ms

-- whether the run from the state in lane 0 reaches the goal
abbrev pub TellsReached : Task → Cases → Bool → Type 0
TellsReached T c r = (st : List Bool) → length st ≡ T.facts → Shows c st → r ≡ is_reached (run two T.facts T.goal T.plan 0 st)
