-- The rows of the states before step i are written, up to `at`, their marks too, and `row` has the state now.
use Rattle.blocks.specs.Values.{task}
use Rattle.backward.proofs.Writing.{Writing}
use Rattle.backward.proofs.rows.take_steps.Given as goal

abbrev pub invariant-loop-i : goal.invariant-loop-i
invariant-loop-i l = Writing (task l.task) l.fn.cases l.fn.rows l.i l.at l.cases l.row l.rows l.marks
