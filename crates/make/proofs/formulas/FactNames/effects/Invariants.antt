use Rattle.std.proofs.Common.{◌-◌}
use Rattle.make.specs.Views.{fact_names}
use Rattle.make.proofs.EffectSteps.{EffectsSoFar}
use Rattle.make.proofs.formulas.FactNames.effects.Given as goal

abbrev pub invariant-loop-verb : goal.invariant-loop-verb
invariant-loop-verb l = EffectsSoFar (fact_names l.self) l.most l.fn.text.bytes.now l.text.bytes.now l.least l.effects

abbrev pub decreases-loop-verb : goal.decreases-loop-verb
decreases-loop-verb l = l.most - l.effects.count
