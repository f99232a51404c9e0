-- the steps before this one are told, and the run goes on from the state in lane 0
use Rattle.std.proofs.Common.{◌≡◌, ◌++◌, drop}
use Rattle.std.specs.String.{string_bytes}
use Rattle.names.specs.Views.{names as names_of}
use Rattle.blocks.specs.Values.{problem as problem_of}
use Rattle.explain.specs.States.{state_in, IsKnown}
use Rattle.explain.specs.Tells.{told_from}
use Rattle.explain.proofs.telling.Telling.push_run.Given as goal

abbrev pub invariant-loop-i : goal.invariant-loop-i
invariant-loop-i l =
    let N = names_of l.self.names in
    let p = problem_of l.self.task.now.problem.now in
    let steps = l.self.task.now.steps.now in
    (l.current.facts ≡ l.self.task.now.problem.now.facts) × IsKnown l.current ×
    (string_bytes l.out ++ told_from N p (drop l.i steps) l.i (state_in l.current) ≡
    string_bytes l.initial.out ++ told_from N p steps 0 (state_in l.start))
