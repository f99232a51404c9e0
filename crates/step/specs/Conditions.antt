-- What the conditions of an action hold, and what is made of them.
use Rattle.std.specs.Prelude.{◌≡◌, List, ℕ, ◌+◌, ◌≤◌, ◌<◌, min, length, get_or, Result, Ok, Err}
use Rattle.model.specs.Kleene.{Kleene, three}
use Rattle.model.specs.Formula.{Literal, fact, any, none, eval}
use Rattle.model.specs.FormulaBytes.{literal_of}
use Rattle.model.specs.Action.{Effect, Action, every, exclusive}
use Rattle.model.specs.Run.{lowest_false}
use Rattle.model.specs.Case.{flag}
use Rattle.model.specs.Planes.{lane_bit}
use Rattle.cases.specs.declared.cases.Cases.{Cases}
use Rattle.cases.specs.declared.value.Value.{Value}
use Rattle.cases.specs.Cases.{case_of, value_at}
use Rattle.step.specs.declared.conditions.Conditions.{Conditions}
use Rattle.step.specs.declared.action.Hindrance.{Hindrance}
use Rattle.step.specs.declared.action.Hindrance.TheVariants.{Precondition, Conflict}

-- the entry numbered i
abbrev pub entry_at : List Effect → ℕ → Effect
entry_at es i = get_or es i (record { literal = fact 0; condition = any none })

-- the literal of the entry numbered i, and the value of its condition
abbrev pub literal_at : Conditions → ℕ → Literal
literal_at c i = literal_of (get_or c.literals i 0)

abbrev pub condition_at : Conditions → ℕ → Value
condition_at c i = record { some = get_or c.some i 0; sure = get_or c.sure i 0; consistent = c.consistent i }

-- the entries are those of the effects es, each condition's value that in each lane's case
pub record Hold (c : Conditions) (es : List Effect) (case : ℕ → List Kleene) : Type 0 where
  pub count : length es ≡ c.count
  pub literal : (i : ℕ) → i < c.count → literal_at c i ≡ (entry_at es i).literal
  pub value : (i : ℕ) → i < c.count → (j : ℕ) → j < 64 → value_at (condition_at c i) j ≡ eval three (case j) (entry_at es i).condition

-- one more entry
pub record Pushed (c : Conditions) (l : ℕ) (v : Value) (d : Conditions) : Type 0 where
  pub facts : d.facts ≡ c.facts
  pub count : d.count ≡ c.count + 1
  pub literal : get_or d.literals c.count 0 ≡ l
  pub value : (j : ℕ) → j < 64 → value_at (condition_at d c.count) j ≡ value_at v j
  pub literals : (i : ℕ) → i < c.count → get_or d.literals i 0 ≡ get_or c.literals i 0
  pub values : (i : ℕ) → i < c.count → (j : ℕ) → j < 64 → value_at (condition_at d i) j ≡ value_at (condition_at c i) j

-- whether none of so many facts is in conflict in lane j, as a bit
abbrev pub no_conflict : ℕ → Cases → Action → ℕ → ℕ
no_conflict facts cs a j = flag (every facts (exclusive three a (case_of cs j)))

-- the action's entries are there; and the lanes that are left are those of `alive` in which no fact is in conflict: some, if there were any
pub record LeftOfAny (facts : ℕ) (cs : Cases) (a : Action) (alive : ℕ) (c : Conditions) (lanes : ℕ) : Type 0 where
  pub hold : Hold c a.effects (case_of cs)
  pub among : lanes ≤ alive
  pub some : 0 < alive → lanes ≡ 0 → ⊥
  pub bits : (j : ℕ) → j < 64 → lane_bit j lanes ≡ min (lane_bit j alive) (no_conflict facts cs a j)

-- none is left; and where lane 0 alone is asked, f is the lowest fact in conflict
pub record AllLeftOut (facts : ℕ) (cs : Cases) (a : Action) (alive f : ℕ) : Type 0 where
  pub bits : (j : ℕ) → j < 64 → min (lane_bit j alive) (no_conflict facts cs a j) ≡ 0
  pub lowest : alive ≡ 1 → f ≡ lowest_false facts (exclusive three a (case_of cs 0))

abbrev pub LeavesNone : ℕ → Cases → Action → ℕ → Hindrance → Type 0
LeavesNone facts cs a alive Precondition = ⊥
LeavesNone facts cs a alive (Conflict f) = AllLeftOut facts cs a alive f

-- what is found of an action over so many facts, in cases of any number of them and of any lanes, none too
abbrev pub FindsOfAny : ℕ → Cases → Action → ℕ → Conditions → Result ℕ Hindrance → Type 0
FindsOfAny facts cs a alive c (Ok lanes) = LeftOfAny facts cs a alive c lanes
FindsOfAny facts cs a alive c (Err h) = LeavesNone facts cs a alive h

-- the action's entries are there; and some lanes of `alive` are left, those in which no fact is in conflict
pub record LeftOut (cs : Cases) (a : Action) (alive : ℕ) (c : Conditions) (lanes : ℕ) : Type 0 where
  pub hold : Hold c a.effects (case_of cs)
  pub among : lanes ≤ alive
  pub some : lanes ≡ 0 → ⊥
  pub bits : (j : ℕ) → j < 64 → lane_bit j lanes ≡ min (lane_bit j alive) (no_conflict cs.facts cs a j)

-- what is found of an action over the facts of the cases, of some lanes
abbrev pub Finds : Cases → Action → ℕ → Conditions → Result ℕ Hindrance → Type 0
Finds cs a alive c (Ok lanes) = LeftOut cs a alive c lanes
Finds cs a alive c (Err h) = LeavesNone cs.facts cs a alive h
