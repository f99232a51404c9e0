use Rattle.std.proofs.Common.{arith}
use Rattle.std.proofs.lemmas.Bool.Decides.{nat_tests}
use Rattle.model.specs.Case.{bit}
use Rattle.answers.proofs.marks.Marks.mark.Goals as goal

pub returns-then-bit-eq1 : goal.returns-then-bit-eq1
unfolding bit
returns-then-bit-eq1 c = grind (arith, nat_tests)

pub returns-else-bit-eq1 : goal.returns-else-bit-eq1
unfolding bit
returns-else-bit-eq1 c = grind (arith, nat_tests)
