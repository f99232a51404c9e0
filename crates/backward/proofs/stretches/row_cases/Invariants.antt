-- The facts before f are as in the row.
use Rattle.backward.proofs.Reading.{Reading}
use Rattle.backward.proofs.stretches.row_cases.Given as goal

abbrev pub invariant-loop-f : goal.invariant-loop-f
invariant-loop-f l = Reading l.facts l.row l.f l.cases
