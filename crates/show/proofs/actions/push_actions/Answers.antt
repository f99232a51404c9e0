use Rattle.std.proofs.Common.{◌≤◌, ◌<◌, arith, length}
use Rattle.blocks.proofs.Tasks.{action-count}
use Rattle.blocks.specs.Values.{problem as problem_of}
use Rattle.fields.specs.Actions.{action as action_of}
use Rattle.names.specs.Views.{names as names_of}
use Rattle.names.proofs.Pieces.{one-piece, all-written}
use Rattle.show.proofs.Lines.{first-action, no-action}
use Rattle.show.proofs.actions.push_actions.Goals as goal

pub loop-action-preserved : goal.loop-action-preserved
loop-action-preserved c =
    let as' = (problem_of c.args.problem.now).actions in
    let h : c.loop-action.action < length as' = omega (arith, action-count c.args.problem.now, c.loop-action-test.true) in
    one-piece _ _ _ _ _ _ c.loop-action.invariant
    (first-action (names_of c.args.names) as' c.loop-action.action (action_of c.get.result) h c.get.ensures.is)
    c.in_ok-push_action.ensures

pub returns : goal.returns
returns c =
    let as' = (problem_of c.args.problem.now).actions in
    let h : length as' ≤ c.loop-action.action = omega (arith, action-count c.args.problem.now, c.loop-action-test.false) in
    all-written _ _ _ c.loop-action.invariant (no-action (names_of c.args.names) as' c.loop-action.action h)
