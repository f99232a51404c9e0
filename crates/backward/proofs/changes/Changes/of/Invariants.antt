-- The sets are those of the effects that were met.
use Rattle.fields.specs.Actions.{effects}
use Rattle.backward.proofs.Changing.{Changing}
use Rattle.backward.proofs.changes.Changes.of.Given as goal

abbrev pub invariant-loop-effect : goal.invariant-loop-effect
invariant-loop-effect l = Changing l.cases (effects l.effects) l.changes (effects l.effect-iterator)
