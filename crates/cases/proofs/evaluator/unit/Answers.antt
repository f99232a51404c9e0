use Rattle.std.proofs.Common.{refl, ◌∙◌}
use Rattle.model.proofs.Laws.Planes.{bit-ones, bit-zero}
use Rattle.cases.proofs.evaluator.unit.Goals as goal

pub returns-in-All : goal.returns-in-All
returns-in-All c = rw c.in-All.is (λ j l. c.known.ensures j l ∙ rw (bit-ones j l) refl)

pub returns-in-Any : goal.returns-in-Any
returns-in-Any c = rw c.in-Any.is (λ j l. c.known-in-Any.ensures j l ∙ rw (bit-zero j) refl)
