-- The set has what the conditions of the effects that were met name.
use Rattle.fields.specs.Actions.{effects}
use Rattle.backward.proofs.Changing.{Gathering}
use Rattle.backward.proofs.matters.facts_of_conditions.Given as goal

abbrev pub invariant-loop-effect : goal.invariant-loop-effect
invariant-loop-effect l = Gathering l.set l.cleared l.facts (effects l.effects) (effects l.effect-iterator)
