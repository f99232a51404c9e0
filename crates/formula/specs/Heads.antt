-- What the tests for literals and `group_at` answer.
use Rattle.std.specs.Prelude.{◌≡◌, Bool, true, ◌&&◌, List, ℕ, ◌+◌, ◌<◌, ◌≤◌, get_or, ltb, Option, None, Some, Result, Ok, Err}
use Rattle.model.specs.Read.{Read, got}
use Rattle.model.specs.FormulaBytes as bytes
use Rattle.model.specs.Marks.{group_of}
use Rattle.model.specs.declared.Refusal.{Refusal}
use Rattle.model.specs.declared.marks.Group.{Group}
use Rattle.formula.specs.Readings.{rejected}
use Rattle.formula.specs.declared.read.GroupHead.{GroupHead}

-- a declared literal stands at p, before `end`
abbrev pub literal_at : List ℕ → ℕ → ℕ → ℕ → Bool
literal_at s end facts p = ltb p end && bytes.is_literal facts (get_or s p 0)

-- declared literals alone stand from p on, before `end`
abbrev pub AreLiterals : List ℕ → ℕ → ℕ → ℕ → Type 0
AreLiterals s end facts p = (i : ℕ) → p ≤ i → i < end → bytes.is_literal facts (get_or s i 0) ≡ true

-- the mark of the group that a formula is in, or 0
abbrev pub parent_mark : Option Group → ℕ
parent_mark None = 0
parent_mark (Some g) = bytes.mark (group_of g)

-- what was read at p
abbrev pub head_of : ℕ → Result GroupHead Refusal → Read bytes.Head
head_of p (Err r) = rejected r
head_of p (Ok h) = got (bytes.group (group_of h.group) h.count) (p + 2)

-- where a group's head can stand: a group is in none of its own kind
abbrev pub Placed : ℕ → ℕ → ℕ → ℕ → Result GroupHead Refusal → Type 0
Placed end left parent p (Err r) = Unit {0}
Placed end left parent p (Ok h) = (p + 1 < end) × (0 < left) × (bytes.mark (group_of h.group) ≡ parent → ⊥)

pub record Headed (s : List ℕ) (end facts left parent p : ℕ) (r : Result GroupHead Refusal) : Type 0 where
  pub is : head_of p r ≡ bytes.head s end facts left parent p
  pub placed : Placed end left parent p r
