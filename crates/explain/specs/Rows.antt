-- The states that a run comes to, and that they are those of the run.
use Rattle.std.specs.Prelude.{◌≡◌, Bool, cond, List, [], ◌∷◌, ℕ, suc, length, take}
use Rattle.model.specs.Kleene.{two}
use Rattle.model.specs.Formula.{Formula}
use Rattle.model.specs.Action.{Action, applicable, step}
use Rattle.model.specs.Run.{Outcome, reached, missed, blocked, run}
use Rattle.model.specs.Relevance.{states}

-- the states of n facts that a run comes to from the state c: it ends where an action is not applicable, and at its end
unfoldable pub rows : ℕ → List Action → List Bool → List (List Bool)
rows n [] c = c ∷ []
rows n (a ∷ plan) c = c ∷ cond (applicable two n a c) (rows n plan (step two n a c)) []

-- how many they are, by how the run ends: one before each step that is taken, and one more
abbrev pub row_count : ℕ → Outcome → ℕ
row_count steps reached = suc steps
row_count steps missed = suc steps
row_count steps (blocked s) = suc s.step

-- rows of a run: they are the first of its states, as many as it comes to
abbrev pub RowsAreStates : Type 0
RowsAreStates =
    (n : ℕ) (goal : Formula) (plan : List Action) (c : List Bool) →
    (rows n plan c ≡ take (length (rows n plan c)) (states n plan c)) × (length (rows n plan c) ≡ row_count (length plan) (run two n goal plan 0 c))
