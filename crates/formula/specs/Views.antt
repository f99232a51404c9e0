-- What a view shows.
use Rattle.std.specs.Prelude.{◌≡◌, Bool, true, false}
use Rattle.model.specs.Formula as model
use Rattle.model.specs.FormulaBytes.{grouped, literal_of}
use Rattle.formula.specs.Decoding.{decode, first, after, head}
use Rattle.formula.specs.declared.formulas.Formulas.{Formulas}
use Rattle.formula.specs.declared.formulas.Formula.{Formula}
use Rattle.formula.specs.declared.formulas.Members.{Members}
use Rattle.formula.specs.declared.literal.Literal.{Literal as Byte}
use Rattle.formula.specs.declared.formulas.Next.{Next}
use Rattle.formula.specs.declared.formulas.Next.TheVariants.{Literal, Group}
use Rattle.model.specs.Marks.{group_of}

abbrev pub literal : Byte → model.Literal
literal l = literal_of l.byte

abbrev pub is_denial : model.Literal → Bool
is_denial (model.fact f) = false
is_denial (model.denial f) = true

abbrev pub formulas : Formulas → model.Formulas
formulas f = decode f.bytes.now

abbrev pub formula : Formula → model.Formula
formula f = head (decode f.formulas.bytes.now)

-- a group's members, the group, and what comes after it
abbrev pub members : Members → model.Formulas
members m = first m.count (formulas m.formulas)

abbrev pub group : Members → model.Formula
group m = grouped (group_of m.group) (members m)

abbrev pub after_group : Members → model.Formulas
after_group m = after m.count (formulas m.formulas)

-- only m
abbrev pub IsOne : model.Formula → Formulas → Type 0
IsOne m fs = formulas fs ≡ model.more m model.none

-- the first is a literal, or a group
abbrev pub IsNext : model.Formulas → Next → Type 0
IsNext ms (Literal l fs) = ms ≡ model.more (model.lit (literal l)) (formulas fs)
IsNext ms (Group m) = ms ≡ model.more (group m) (after_group m)
