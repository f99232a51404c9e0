-- The rows that are kept of the states before step i are written, and `row` has the state now.
use Rattle.blocks.specs.Values.{task}
use Rattle.backward.proofs.Keeping.{Keeping}
use Rattle.backward.proofs.kept.keep_rows.Given as goal

abbrev pub invariant-loop-i : goal.invariant-loop-i
invariant-loop-i l = Keeping (task l.task) l.fn.cases l.fn.kept l.i l.cases l.row l.kept
