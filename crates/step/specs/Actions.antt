-- What obeying an action answers.
use Rattle.std.specs.Prelude.{◌≡◌, true, false, List, ℕ, ◌≤◌, ◌<◌, min, Result, Ok, Err}
use Rattle.model.specs.Kleene.{Kleene, three}
use Rattle.model.specs.Action.{Action, exclusive, applicable, step}
use Rattle.model.specs.Run.{holds_in, lowest_false}
use Rattle.model.specs.Case.{flag}
use Rattle.model.specs.Planes.{lane_bit}
use Rattle.cases.specs.declared.cases.Cases.{Cases}
use Rattle.cases.specs.Cases.{case_of}
use Rattle.step.specs.declared.action.Hindrance.{Hindrance}
use Rattle.step.specs.declared.action.Hindrance.TheVariants.{Precondition, Conflict}

-- the bit of lane j in the lanes of `alive` in which the action is applicable
abbrev pub applicable_bit : Cases → Action → ℕ → ℕ → ℕ
applicable_bit c a alive j = min (lane_bit j alive) (flag (applicable three c.facts a (case_of c j)))

-- some lanes of `alive` go on, those in which the action is applicable; and in each lane its case is that after the action
pub record GoesOn (c : Cases) (a : Action) (alive : ℕ) (d : Cases) (lanes : ℕ) : Type 0 where
  pub among : lanes ≤ alive
  pub some : lanes ≡ 0 → ⊥
  pub bits : (j : ℕ) → j < 64 → lane_bit j lanes ≡ applicable_bit c a alive j
  pub cases : (j : ℕ) → j < 64 → case_of d j ≡ step three c.facts a (case_of c j)

-- what hinders the action in the values v, of n facts: a precondition that is not true, and else the lowest fact in conflict
abbrev pub Hinders : ℕ → Action → List Kleene → Hindrance → Type 0
Hinders n a v Precondition = holds_in three v a.precondition ≡ false
Hinders n a v (Conflict f) = (holds_in three v a.precondition ≡ true) × (f ≡ lowest_false n (exclusive three a v))

-- no lane goes on, and the cases are as they were; where lane 0 alone is asked, h is what hinders the action there
pub record IsHindered (c : Cases) (a : Action) (alive : ℕ) (d : Cases) (h : Hindrance) : Type 0 where
  pub kept : d ≡ c
  pub none : (j : ℕ) → j < 64 → applicable_bit c a alive j ≡ 0
  pub hinders : alive ≡ 1 → Hinders c.facts a (case_of c 0) h

abbrev pub Obeys : Cases → Action → ℕ → Cases → Result ℕ Hindrance → Type 0
Obeys c a alive d (Ok lanes) = GoesOn c a alive d lanes
Obeys c a alive d (Err h) = IsHindered c a alive d h
