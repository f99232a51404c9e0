-- What is refused before anything is written, and what is answered then.
use Rattle.std.specs.Prelude.{◌≡◌, cond, Bool, List, ℕ, length, ltb, Result}
use Rattle.model.specs.declared.Refusal.{Refusal}
use Rattle.model.specs.Kleene.{two}
use Rattle.model.specs.Answer.{refused, answered}
use Rattle.model.specs.Answers.{plain_answer}
use Rattle.model.specs.Run.{run}
use Rattle.model.specs.Case.{Task}
use Rattle.model.specs.Relevance.{number_of, relevant}
use Rattle.model.specs.Operations.{when_reached}
use Rattle.cases.specs.declared.cases.Cases.{Cases}
use Rattle.backward.specs.declared.matters.Mark.{Mark}
use Rattle.backward.specs.Marks.{Marked, WithinTask}
use Rattle.backward.specs.Rows.{Shows}

-- 41 where the run is not reached
abbrev pub ChecksReached : Bool → Result (Unit {0}) Refusal → Type 0
ChecksReached reaches r = plain_answer r ≡ cond reaches (answered tt) (refused 41 0)

-- and so of the state in lane 0
abbrev pub ChecksRun : Task → Cases → Result (Unit {0}) Refusal → Type 0
ChecksRun T c r =
    (st : List Bool) → length st ≡ T.facts → Shows c st → plain_answer r ≡ when_reached (run two T.facts T.goal T.plan 0 st) (answered tt)

-- 42 where the rows have no room
abbrev pub ChecksRoom : ℕ → ℕ → Result (Unit {0}) Refusal → Type 0
ChecksRoom need room r = plain_answer r ≡ cond (ltb room need) (refused 42 0) (answered tt)

-- the number of the set of facts that matter before the run from the state st, whose steps have these marks
abbrev pub TracesMarks : Task → List Mark → ℕ → Type 0
TracesMarks T ms r =
    WithinTask T → (st : List Bool) → length st ≡ T.facts → Marked T st ms → r ≡ number_of T.width (relevant T.facts T.goal T.plan st)
