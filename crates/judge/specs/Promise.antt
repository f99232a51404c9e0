-- What an answer of `judge` promises.
use Rattle.std.specs.Prelude.{◌≡◌, ℕ}
use Rattle.model.specs.Answer.{Answer, refused, answered}
use Rattle.model.specs.Case.{Task}
use Rattle.model.specs.Walk.{Verdict}
use Rattle.model.specs.Guarantees.{Says}

-- A refusal is the reader's. Otherwise some T was read, and the verdict says what it means: right and the plan reaches the goal from every start
-- state; wrong with the lowest failing start state and where it fails; undecided where the walk needs more visits than granted; and each with the
-- visits of the walk.
abbrev pub JudgePromised : Answer Task → ℕ → Answer (Verdict ℕ) → Type 0
JudgePromised R grant (refused n q) = R ≡ refused n q
JudgePromised R grant (answered v) = (T : Task) × (R ≡ answered T) × Says T grant v
