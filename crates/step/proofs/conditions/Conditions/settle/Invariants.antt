-- the entries from number e on are settled
use Rattle.step.proofs.Turns.{Settling}
use Rattle.step.proofs.conditions.Conditions.settle.Given as goal

abbrev pub invariant-loop-e : goal.invariant-loop-e
invariant-loop-e l = Settling l.self l.fn.cases l.e l.cases
