-- What going backward over a step needs to know of its run, and what is worked out of it.
use Rattle.std.specs.Prelude.{◌≡◌, Bool, true, List, [], ◌∷◌, ℕ, ◌<◌, length, get_or}
use Rattle.model.specs.Limits.{max_facts}
use Rattle.model.specs.Kleene.{two}
use Rattle.model.specs.Formula.{Literal}
use Rattle.model.specs.Action.{Action, condition_of, tabulate, sets, step}
use Rattle.model.specs.Case.{Task}
use Rattle.model.specs.ProblemBytes.{action_at}
use Rattle.model.specs.Relevance.{names, set_and_cleared, matters_before, states}
use Rattle.backward.specs.declared.facts.FactSet.{FactSet}
use Rattle.backward.specs.declared.matters.Mark.{Mark}
use Rattle.backward.specs.Facts.{has_fact, HasFacts}

-- the facts that the action sets in the state st, and those that it may both set and clear
pub record IsMark (a : Action) (st : List Bool) (r : Mark) : Type 0 where
  pub set : (g : ℕ) → g < max_facts → has_fact r.set g ≡ sets two a st g
  pub both : (g : ℕ) → g < max_facts → has_fact r.both g ≡ set_and_cleared a g

-- the facts that matter before the action, in a state that it has this mark in, by the set m of those that matter after it
abbrev pub MattersBefore : Mark → FactSet → ℕ → Action → FactSet → Type 0
MattersBefore k after facts a r =
    (st m : List Bool) → IsMark a st k → length m ≡ facts → HasFacts after m → (f : ℕ) → f < max_facts → has_fact r f ≡ matters_before a facts st m f

-- the state before step i of the run from st, or the last one
abbrev pub state_at : Task → List Bool → ℕ → List Bool
state_at T st i = get_or (states T.facts T.plan st) i []

abbrev pub no_mark : Mark
no_mark = record { set = record { word = 0 }; both = record { word = 0 } }

-- the steps of the run from st have these marks
abbrev pub Marked : Task → List Bool → List Mark → Type 0
Marked T st ms = (i : ℕ) → i < length T.plan → IsMark (action_at T.plan i) (state_at T st i) (get_or ms i no_mark)

-- what matters before the steps of a plan from the state st, by the set m of the facts that matter after them
unfoldable pub matter_before : ℕ → List Action → List Bool → List Bool → List Bool
matter_before n [] m st = m
matter_before n (a ∷ plan) m st = tabulate n (matters_before a n st (matter_before n plan m (step two n a st)))

-- the formulas of an action name no fact past the first n
abbrev pub WithinAction : ℕ → Action → Type 0
WithinAction n a = (f : ℕ) → (names a.precondition f ≡ true → f < n) × ((l : Literal) → names (condition_of l a.effects) f ≡ true → f < n)

-- and so it is of a task
pub record WithinTask (T : Task) : Type 0 where
  pub goal : (f : ℕ) → names T.goal f ≡ true → f < T.facts
  pub actions : (i : ℕ) → i < length T.plan → WithinAction T.facts (action_at T.plan i)

-- the facts that matter before the steps with these marks
abbrev pub TracesBack : Task → List Mark → FactSet → FactSet → Type 0
TracesBack T ms after r =
    WithinTask T → (st : List Bool) → length st ≡ T.facts → Marked T st ms → (m : List Bool) → length m ≡ T.facts → HasFacts after m →
    HasFacts r (matter_before T.facts T.plan m st)
