-- What is written, and then the steps left, is the whole text.
use Rattle.std.proofs.Common.{◌≡◌, ◌++◌, drop}
use Rattle.std.specs.String.{string_bytes}
use Rattle.names.specs.Views.{names as names_of}
use Rattle.names.specs.ProblemText.{steps_text}
use Rattle.show.proofs.plan.push_steps.Given as goal

abbrev pub invariant-loop-step : goal.invariant-loop-step
invariant-loop-step l =
    let N = names_of l.names in
    string_bytes l.out ++ steps_text N (drop l.step-index l.steps) ≡ string_bytes l.fn.out ++ steps_text N l.steps
