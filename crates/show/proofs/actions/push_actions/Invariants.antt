-- What is written, and then the actions left, is the whole text.
use Rattle.std.proofs.Common.{◌≡◌, ◌++◌, drop}
use Rattle.std.specs.String.{string_bytes}
use Rattle.blocks.specs.Values.{problem as problem_of}
use Rattle.names.specs.Views.{names as names_of}
use Rattle.names.specs.ProblemText.{actions_text}
use Rattle.show.proofs.actions.push_actions.Given as goal

abbrev pub invariant-loop-action : goal.invariant-loop-action
invariant-loop-action l =
    let N = names_of l.names in
    let as' = (problem_of l.problem).actions in
    string_bytes l.out ++ actions_text N l.action (drop l.action as') ≡ string_bytes l.fn.out ++ actions_text N 0 as'
