-- The rows of a run that are kept.
use Rattle.std.specs.Prelude.{◌≡◌, Bool, cond, List, ℕ, ◌+◌, ◌*◌, ◌/◌, ◌%◌, length, eqb}
use Rattle.std.proofs.lemmas.List.Edits.{sets}
use Rattle.model.specs.Kleene.{two}
use Rattle.model.specs.Action.{tabulate}
use Rattle.model.specs.Run.{reached, run}
use Rattle.model.specs.Case.{Task}
use Rattle.model.specs.Relevance.{stretch, rows}
use Rattle.cases.specs.declared.cases.Cases.{Cases}
use Rattle.backward.specs.Marks.{state_at}
use Rattle.backward.specs.Rows.{Shows}

-- the row of the state before step i, if that begins a stretch, becomes the next of those that are kept
abbrev pub KeepsRow : ℕ → List ℕ → List ℕ → List ℕ → Type 0
KeepsRow i row before after = after ≡ cond (eqb (i % stretch) 0) (sets before (i / stretch * length row) row) before

-- the states that are kept: every 16th of the run from st, from the first on
abbrev pub kept_of : Task → List Bool → List (List Bool)
kept_of T st = tabulate (length T.plan / stretch + 1) (λ i. state_at T st (stretch * i))

-- the run from the state in lane 0, if it is reached: the states that are kept become the first rows
abbrev pub KeepsRows : Task → Cases → List ℕ → List ℕ → Type 0
KeepsRows T c before after =
    (st : List Bool) → length st ≡ T.facts → Shows c st → run two T.facts T.goal T.plan 0 st ≡ reached → after ≡ sets before 0 (rows (kept_of T st))
