-- What the runs of 64 cases, and a look at them, answer.
use Rattle.std.specs.Prelude.{◌≡◌, List, ℕ, zero, suc, ◌≤◌, ◌<◌, min, length, drop, Option, None, Some, bit_xor}
use Rattle.model.specs.Kleene.{Kleene, three}
use Rattle.model.specs.Formula.{Formula, eval}
use Rattle.model.specs.Run.{reached, missed, blocked, holds_in, run}
use Rattle.model.specs.Run as Run
use Rattle.model.specs.Case.{flag, Task}
use Rattle.model.specs.Walk.{opened, closed, carries, empty, look_of}
use Rattle.model.specs.Walk as Walk
use Rattle.model.specs.Planes.{lane_bit, some_bit, ones}
use Rattle.model.specs.declared.marks.Kind.{Kind}
use Rattle.model.specs.Marks.{kind_of}
use Rattle.runs.specs.declared.lanes.Looks.{Looks}

-- what is left of a run, from step i on
abbrev pub run_from : Task → ℕ → List Kleene → Run.Outcome
run_from T i v = run three T.facts T.goal (drop i T.plan) i v

abbrev pub reached_bit : Run.Outcome → ℕ
reached_bit reached = 1
reached_bit missed = 0
reached_bit (blocked p) = 0

-- these are the lanes in whose case the initial formula is not no
abbrev pub NotEmpty : Formula → (ℕ → List Kleene) → ℕ → Type 0
NotEmpty initial case starts = (j : ℕ) → j < 64 → lane_bit j starts ≡ some_bit (eval three (case j) initial)

-- the lanes r of `lanes` whose run reaches the goal
abbrev pub Reaches : Task → ℕ → (ℕ → List Kleene) → ℕ → Type 0
Reaches T lanes case r =
    (j : ℕ) → j < 64 → lane_bit j r ≡ min (lane_bit j lanes) (reached_bit (run three T.facts T.goal T.plan 0 (case j)))

-- the lanes r of `alive` in whose case the goal holds
abbrev pub GoalReached : Formula → (ℕ → List Kleene) → ℕ → ℕ → Type 0
GoalReached goal case alive r = (j : ℕ) → j < 64 → lane_bit j r ≡ min (lane_bit j alive) (flag (holds_in three (case j) goal))

-- after i steps: the lanes that go on, and their cases now
pub record Running (T : Task) (lanes : ℕ) (case : ℕ → List Kleene) (i alive : ℕ) (now' : ℕ → List Kleene) : Type 0 where
  pub few : i ≤ length T.plan
  pub is :
      (j : ℕ) → j < 64 →
      min (lane_bit j lanes) (reached_bit (run_from T 0 (case j))) ≡ min (lane_bit j alive) (reached_bit (run_from T i (now' j)))

-- the look of a closed case of that kind, or of an open one
abbrev pub kind_look : Option Kind → Walk.Look
kind_look (Some kind) = closed (kind_of kind)
kind_look None = opened

-- what two bits, empty and carries, say of a case
abbrev pub look_bits : ℕ → ℕ → Walk.Look
look_bits zero zero = opened
look_bits zero (suc b) = closed carries
look_bits (suc a) b = closed empty

-- what is found where the lanes of `starts` are not empty, and those of `carried` carry
abbrev pub looks_of : ℕ → ℕ → Looks
looks_of starts carried = record { empty = bit_xor ones starts; carries = carried }

-- what a visit finds of each lane's case
abbrev pub LooksAt : Task → (ℕ → List Kleene) → Looks → Type 0
LooksAt T case r =
    (j : ℕ) → j < 64 →
    look_bits (lane_bit j r.empty) (lane_bit j r.carries) ≡ look_of (eval three (case j) T.initial) (run three T.facts T.goal T.plan 0 (case j))
