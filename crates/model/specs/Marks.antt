-- What the marks of lines and of groups stand for.
use Rattle.std.specs.Prelude.{◌≡◌, ℕ, Result, Ok, Err}
use Rattle.model.specs.Walk as Walk
use Rattle.model.specs.FormulaBytes as FormulaBytes
use Rattle.model.specs.declared.marks.UnknownMark.{UnknownMark}
use Rattle.model.specs.declared.marks.Kind.{Kind}
use Rattle.model.specs.declared.marks.Kind.TheVariants.{Empty, Carries}
use Rattle.model.specs.declared.marks.Group.{Group}
use Rattle.model.specs.declared.marks.Group.TheVariants.{All, Any}

abbrev pub kind_of : Kind → Walk.Kind
kind_of Empty = Walk.empty
kind_of Carries = Walk.carries

abbrev pub group_of : Group → FormulaBytes.Group
group_of All = FormulaBytes.conjunction
group_of Any = FormulaBytes.disjunction

-- the kind, or the group, with that mark; or there is none
abbrev pub IsKind : ℕ → Result Kind UnknownMark → Type 0
IsKind b (Ok κ) = b ≡ Walk.kind_number (kind_of κ)
IsKind b (Err e) = (κ : Walk.Kind) → b ≡ Walk.kind_number κ → ⊥

abbrev pub IsGroup : ℕ → Result Group UnknownMark → Type 0
IsGroup b (Ok g) = b ≡ FormulaBytes.mark (group_of g)
IsGroup b (Err e) = (g : FormulaBytes.Group) → b ≡ FormulaBytes.mark g → ⊥
