-- What is left is what was left: marks and counts are none.
use Rattle.std.proofs.Common.{◌≡◌}
use Rattle.formula.specs.Views.{formulas}
use Rattle.formula.specs.Literals.{literals_left}
use Rattle.formula.proofs.Sizes.{sizes}
use Rattle.formula.proofs.literals.LiteralsIterator.next.Given as goal

abbrev pub invariant-loop-literal : goal.invariant-loop-literal
invariant-loop-literal l = literals_left l.self ≡ literals_left l.initial.self

abbrev pub decreases-loop-literal : goal.decreases-loop-literal
decreases-loop-literal l = sizes (formulas l.self.formulas)
