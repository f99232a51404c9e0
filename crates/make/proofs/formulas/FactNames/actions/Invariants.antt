use Rattle.std.proofs.Common.{◌-◌, length}
use Rattle.make.specs.Views.{fact_names}
use Rattle.make.proofs.ActionSteps.{ActionsSoFar}
use Rattle.make.proofs.formulas.FactNames.actions.Given as goal

abbrev pub invariant-loop-word : goal.invariant-loop-word
invariant-loop-word l = ActionsSoFar l.limits (fact_names l.self) l.fn.text.bytes.now l.text.bytes.now l.actions

abbrev pub decreases-loop-word : goal.decreases-loop-word
decreases-loop-word l = 64 - length l.actions.names.items
