-- The literals of formulas, in order.
use Rattle.std.specs.Prelude.{List, [], ◌∷◌, ◌++◌}
use Rattle.model.specs.Formula.{Literal, Formula, Formulas, lit, all, any, none, more}
use Rattle.formula.specs.Views.{formulas}
use Rattle.formula.specs.declared.literals.Literals.{Literals}

unfoldable mutual
  pub literals : Formula → List Literal
  literals (lit l) = l ∷ []
  literals (all ms) = member_literals ms
  literals (any ms) = member_literals ms

  pub member_literals : Formulas → List Literal
  member_literals none = []
  member_literals (more m ms) = literals m ++ member_literals ms

-- those that an iterator has left
abbrev pub literals_left : Literals → List Literal
literals_left l = member_literals (formulas l.formulas)
