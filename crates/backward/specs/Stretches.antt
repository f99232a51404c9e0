-- A run gone through backward a stretch at a time, from those of its states that were kept.
use Rattle.std.specs.Prelude.{◌≡◌, Bool, List, ◌++◌, map, ℕ, ◌-◌, ◌/◌, ◌*◌, ◌≤◌, length, take, drop, replicate}
use Rattle.std.proofs.lemmas.List.Edits.{sets}
use Rattle.model.specs.Kleene.{two}
use Rattle.model.specs.Formula.{Formula}
use Rattle.model.specs.Action.{Action}
use Rattle.model.specs.Run.{reached, run}
use Rattle.model.specs.Case.{flag, Task}
use Rattle.model.specs.Relevance.{stretch, states, rows, padded, relevant}
use Rattle.cases.specs.declared.cases.Cases.{Cases}
use Rattle.backward.specs.declared.facts.FactSet.{FactSet}
use Rattle.backward.specs.declared.matters.Mark.{Mark}
use Rattle.backward.specs.Facts.{HasFacts}
use Rattle.backward.specs.Marks.{Marked, state_at, WithinTask}
use Rattle.backward.specs.Rows.{Shows}

-- the task of the steps from a up to b
abbrev pub part : Task → ℕ → ℕ → Task
part T a b = record { width = T.width; facts = T.facts; initial = T.initial; goal = T.goal; plan = take (b - a) (drop a T.plan) }

-- lane 0 has the state that stands in the row
abbrev pub ShowsRow : List ℕ → Cases → Type 0
ShowsRow row c = (st : List Bool) → row ≡ map flag st → Shows c st

-- the run of T from the state in the row: its first 16 states have become the first rows, and its steps are marked, if it is the begin of one that
-- reaches its goal
abbrev pub TakesPart : Task → List ℕ → List ℕ → List ℕ → List Mark → Type 0
TakesPart T row before after ms =
    (st : List Bool) → length st ≡ T.facts → row ≡ map flag st →
    (goal : Formula) (more : List Action) (i : ℕ) → run two T.facts goal (T.plan ++ more) i st ≡ reached →
    (after ≡ sets before 0 (rows (take stretch (states T.facts T.plan st)))) × Marked T st ms

-- every 16th state of the run from st stands in `kept`, row by row
abbrev pub KeptIn : List ℕ → Task → List Bool → Type 0
KeptIn kept T st = (i : ℕ) → i ≤ length T.plan / stretch → take T.facts (drop (i * T.facts) kept) ≡ map flag (state_at T st (stretch * i))

-- the facts that matter before the run, if it reaches the goal, and its first rows, with zeros after them
abbrev pub TracesStretches : Task → List ℕ → List ℕ → List ℕ → FactSet → Type 0
TracesStretches T kept before after r =
    WithinTask T → (st : List Bool) → length st ≡ T.facts → KeptIn kept T st → run two T.facts T.goal T.plan 0 st ≡ reached →
    before ≡ replicate (stretch * T.facts) 0 →
    HasFacts r (relevant T.facts T.goal T.plan st) × (after ≡ padded (stretch * T.facts) (rows (take stretch (states T.facts T.plan st))))
