-- what remains to be written are the actions left: of the first hall with all of the second's, and then of the second alone
use Rattle.std.proofs.Common.{◌++◌, map, drop}
use Rattle.model.specs.ProblemBytes.{actions_bytes}
use Rattle.model.specs.Merging.{moved_action}
use Rattle.numbers.proofs.Writing.{Remains}
use Rattle.blocks.specs.Values.{problem}
use Rattle.merge.specs.Views.{halls_of}
use Rattle.merge.proofs.halls.Halls.put_actions.Given as goal

abbrev pub invariant-loop-step : goal.invariant-loop-step
invariant-loop-step l =
    let p = problem l.self.first.now in
    let q = problem l.self.second.now in
    Remains l.initial.place (actions_bytes (halls_of l.self).actions) l.place
    (actions_bytes (map (moved_action 0) (drop l.step p.actions)) ++ actions_bytes (map (moved_action p.facts) q.actions))

abbrev pub invariant-loop-step-2 : goal.invariant-loop-step-2
invariant-loop-step-2 l =
    let q = problem l.self.second.now in
    let n = (problem l.self.first.now).facts in
    Remains l.initial.place (actions_bytes (map (moved_action n) q.actions)) l.place (actions_bytes (map (moved_action n) (drop l.step q.actions)))
