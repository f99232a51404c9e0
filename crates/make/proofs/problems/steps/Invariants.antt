use Rattle.std.proofs.Common.{◌-◌, length}
use Rattle.make.specs.Views.{texts}
use Rattle.make.proofs.PlanSteps.{StepsSoFar}
use Rattle.make.proofs.problems.steps.Given as goal

abbrev pub invariant-loop-word : goal.invariant-loop-word
invariant-loop-word l = StepsSoFar (texts l.names) l.fn.text.bytes.now l.text.bytes.now l.steps.items

abbrev pub decreases-loop-word : goal.decreases-loop-word
decreases-loop-word l = 256 - length l.steps.items
