-- what remains to be written are the effects left
use Rattle.std.proofs.Common.{map}
use Rattle.model.specs.ProblemBytes.{effects_bytes, action_bytes}
use Rattle.model.specs.Merging.{moved_effect, moved_action}
use Rattle.numbers.proofs.Writing.{Remains}
use Rattle.fields.specs.Actions.{action, effects}
use Rattle.merge.proofs.write.put_action.Given as goal

abbrev pub invariant-loop-effect : goal.invariant-loop-effect
invariant-loop-effect l =
    Remains l.fn.writer (action_bytes (moved_action l.shift (action l.action))) l.writer (effects_bytes (map (moved_effect l.shift) (effects l.effect-iterator)))
