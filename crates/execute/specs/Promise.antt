-- What an answer of `run` promises.
use Rattle.std.specs.Prelude.{◌≡◌, ◌↔◌, ◌⊎◌, ℕ}
use Rattle.model.specs.Answer.{Answer, refused, answered}
use Rattle.model.specs.Run.{Outcome}
use Rattle.model.specs.Case.{Task, IsState}
use Rattle.model.specs.Guarantees.{OutcomeSays}

-- A refusal is the reader's, or 40 for what is no state. Otherwise some T was read, s is a state of it, and the outcome is each one exactly if the
-- meaning of plans by beliefs says so of the belief that holds s alone.
abbrev pub RunPromised : Answer Task → ℕ → Answer Outcome → Type 0
RunPromised R s (refused n q) = (R ≡ refused n q) ⊎ ((T : Task) × (R ≡ answered T) × (IsState T s → ⊥) × (n ≡ 40) × (q ≡ 0))
RunPromised R s (answered r) = (T : Task) × (R ≡ answered T) × IsState T s × ((o : Outcome) → (r ≡ o) ↔ OutcomeSays T s o)
