-- States and cases, and their numbers. How many bits such a number has, the width, is a parameter.
use Rattle.std.specs.Prelude.{◌≡◌, Bool, true, false, cond, List, ℕ, suc, ◌-◌, ◌/◌, ◌%◌, ◌^◌, ◌<◌, eqb, ltb}
use Rattle.model.specs.Kleene.{Kleene, Unknown, known, two}
use Rattle.model.specs.Formula.{Formula, eval}
use Rattle.model.specs.Action.{Action, tabulate}
use Rattle.model.specs.Run.{Outcome, reached, run}

-- state numbers: bit i of a number w bits wide, counted from the top: the value of fact i
unfoldable pub bit : ℕ → ℕ → ℕ → Bool
bit w s i = eqb (s / 2 ^ (w - suc i) % 2) 1

-- a truth value as a number
abbrev pub flag : Bool → ℕ
flag false = 0
flag true = 1

-- states: the n values of the state with this number; its bits past them are 0
unfoldable pub state_of : ℕ → ℕ → ℕ → List Bool
state_of w n s = tabulate n (bit w s)

-- cases: its first k facts are known, and the others are not
unfoldable pub case_of : ℕ → ℕ → ℕ → ℕ → List Kleene
case_of w n k v = tabulate n (λ i. cond (ltb i k) (known (bit w v i)) Unknown)

-- A problem and a plan whose steps were looked up: all that a verdict depends on.
pub record Task : Type 0 where
  pub width : ℕ
  pub facts : ℕ
  pub initial : Formula
  pub goal : Formula
  pub plan : List Action

module _ (T : Task) where
  -- the run of the state numbered s
  unfoldable pub run_of : ℕ → Outcome
  run_of s = run two T.facts T.goal T.plan 0 (state_of T.width T.facts s)

  -- whether the initial formula is true in the state numbered s
  unfoldable pub initially : ℕ → Bool
  initially s = eval two (state_of T.width T.facts s) T.initial

  -- s is the number of a state: no bit past the declared facts
  pub record IsState (s : ℕ) : Type 0 where
    pub in_width : s < 2 ^ T.width
    pub no_bits : s % 2 ^ (T.width - T.facts) ≡ 0

  -- start states: the states in which the initial formula is true
  pub record IsStart (s : ℕ) : Type 0 where
    pub state : IsState s
    pub starts : initially s ≡ true

  -- right plans: the run of every start state is reached. Where there is none, every plan is right.
  abbrev pub Right : Type 0
  Right = (s : ℕ) → IsStart s → run_of s ≡ reached
