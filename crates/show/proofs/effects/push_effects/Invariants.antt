-- What is written, and then the effects left, is the whole text.
use Rattle.std.proofs.Common.{◌≡◌, ◌++◌}
use Rattle.std.specs.String.{string_bytes}
use Rattle.fields.specs.Actions.{effects as effects_of}
use Rattle.names.specs.Views.{names as names_of}
use Rattle.names.specs.ProblemText.{effects_text}
use Rattle.show.proofs.effects.push_effects.Given as goal

abbrev pub invariant-loop-effect : goal.invariant-loop-effect
invariant-loop-effect l =
    let N = names_of l.names in
    string_bytes l.out ++ effects_text N (effects_of l.effect-iterator) ≡ string_bytes l.fn.out ++ effects_text N (effects_of l.effects)
