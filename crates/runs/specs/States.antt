-- What the number of a state gives.
use Rattle.std.specs.Prelude.{◌≡◌, true, false, ℕ, ◌<◌, Result, Ok, Err}
use Rattle.model.specs.declared.Refusal.{Refusal}
use Rattle.model.specs.declared.fault.Fault.TheVariants.{StateNumber}
use Rattle.model.specs.Faults.{refusal_at}
use Rattle.model.specs.Case.{Task}
use Rattle.model.specs.Case as model
use Rattle.model.specs.Operations.{is_state_number}
use Rattle.cases.specs.declared.cases.Cases.{Cases}
use Rattle.cases.specs.Cases.{case_of}

-- every lane has the state numbered s, as the case that fixes every fact
abbrev pub InEachLane : Task → ℕ → Cases → Type 0
InEachLane T s c = (j : ℕ) → j < 64 → case_of c j ≡ model.case_of T.width T.facts T.facts s

-- s is the number of a state of the task, and every lane has that state
pub record HasState (T : Task) (s : ℕ) (c : Cases) : Type 0 where
  pub is : is_state_number T s ≡ true
  pub cases : InEachLane T s c

-- 40 for what is no state; else the state in every lane
abbrev pub StateOf : Task → ℕ → Result Cases Refusal → Type 0
StateOf T s (Err r) = (is_state_number T s ≡ false) × (r ≡ refusal_at StateNumber 0)
StateOf T s (Ok c) = HasState T s c
