-- the changes of the facts before this one are put, and the others are to come
use Rattle.std.proofs.Common.{◌≡◌, ◌++◌, ◌-◌}
use Rattle.std.specs.String.{string_bytes}
use Rattle.names.specs.Views.{names as names_of}
use Rattle.explain.specs.States.{state_in}
use Rattle.explain.specs.Told.{changes_text}
use Rattle.explain.proofs.steps.push_changes.Given as goal

abbrev pub invariant-loop-fact : goal.invariant-loop-fact
invariant-loop-fact l =
    let N = names_of l.names in
    string_bytes l.out ++ changes_text N (state_in l.before) (state_in l.after) l.fact (l.before.facts - l.fact) ≡
    string_bytes l.initial.out ++ changes_text N (state_in l.before) (state_in l.after) 0 l.before.facts
