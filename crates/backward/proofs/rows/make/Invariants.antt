-- The facts that are left are not changed yet.
use Rattle.backward.proofs.Making.{Making}
use Rattle.backward.proofs.rows.make.Given as goal

abbrev pub invariant-loop-fact : goal.invariant-loop-fact
invariant-loop-fact l = Making l.changes l.fn.cases l.fn.row l.fact-iterator l.cases l.row
