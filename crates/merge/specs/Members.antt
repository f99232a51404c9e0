-- The members that formulas bring to an "all", and how deep they are.
use Rattle.std.specs.Prelude.{◌≡◌, cond, ℕ, leb, Option, None, Some}
use Rattle.model.specs.Formula as model
use Rattle.model.specs.FormulaBytes.{member_count}
use Rattle.model.specs.Merging.{deepest}
use Rattle.formula.specs.Views.{formulas, members, after_group}
use Rattle.formula.specs.declared.formulas.Formulas.{Formulas}
use Rattle.formula.specs.declared.formulas.Members.{Members}

-- no formula comes after a group's members
abbrev pub Whole : Members → Type 0
Whole m = member_count (formulas m.formulas) ≡ m.count

abbrev pub shown : Option Formulas → Option model.Formulas
shown None = None
shown (Some fs) = Some (formulas fs)

-- what comes after a group's members, where these have no more than so many groups in one another
abbrev pub PastMembers : Members → ℕ → Option Formulas → Type 0
PastMembers m levels r = shown r ≡ cond (leb (deepest (members m)) levels) (Some (after_group m)) None
