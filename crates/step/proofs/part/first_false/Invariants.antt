-- after i members, which all hold, the others are left
use Rattle.model.specs.{Kleene.three, Run.holds_in}
use Rattle.formula.specs.Views.{formulas}
use Rattle.cases.specs.Cases.{case_of}
use Rattle.step.proofs.Members.{Meeting}
use Rattle.step.proofs.part.first_false.Given as goal

abbrev pub invariant-loop-i : goal.invariant-loop-i
invariant-loop-i l = Meeting (holds_in three (case_of l.cases 0)) (formulas l.members.formulas) l.members.count l.i (formulas l.rest)
