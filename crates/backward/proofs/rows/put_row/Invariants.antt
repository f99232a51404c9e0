-- The facts before f are written.
use Rattle.backward.proofs.Writing.{Putting}
use Rattle.backward.proofs.rows.put_row.Given as goal

abbrev pub invariant-loop-f : goal.invariant-loop-f
invariant-loop-f l = Putting l.cases l.f l.row
