-- what was read so far, and where it begins
use Rattle.blocks.proofs.Standing.{Sofar}
use Rattle.blocks.proofs.actions.Actions.read.Given as goal

abbrev pub invariant-loop-i : goal.invariant-loop-i
invariant-loop-i l = Sofar l.limits l.block l.facts l.count l.begin l.at l.next l.i
