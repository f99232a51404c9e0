-- what remains to be written are the formulas left
use Rattle.model.specs.FormulaBytes.{member_bytes}
use Rattle.model.specs.Merging.{moved_members}
use Rattle.numbers.proofs.Writing.{Remains}
use Rattle.formula.specs.Views.{formulas}
use Rattle.formula.proofs.Sizes.{sizes}
use Rattle.merge.proofs.write.put_formulas.Given as goal

abbrev pub invariant-loop-left : goal.invariant-loop-left
invariant-loop-left l =
    Remains l.fn.writer (member_bytes (moved_members l.shift (formulas l.fn.formulas))) l.writer (member_bytes (moved_members l.shift (formulas l.left)))

abbrev pub decreases-loop-left : goal.decreases-loop-left
decreases-loop-left l = sizes (formulas l.left)
