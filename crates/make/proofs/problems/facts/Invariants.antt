use Rattle.std.proofs.Common.{◌-◌, length}
use Rattle.make.proofs.NameSteps.{FactsSoFar}
use Rattle.make.proofs.problems.facts.Given as goal

abbrev pub invariant-loop-word : goal.invariant-loop-word
invariant-loop-word l = FactsSoFar l.most l.fn.text.bytes.now l.text.bytes.now l.names.items

abbrev pub decreases-loop-word : goal.decreases-loop-word
decreases-loop-word l = l.most - length l.names.items
