use Rattle.std.proofs.Common.{refl, rules, subst, List, ◌++◌, map, ℕ, ◌≤◌, ◌<◌, arith, length}
use Rattle.model.specs.ProblemBytes.{action_bytes, actions_bytes}
use Rattle.model.specs.Merging.{moved_action}
use Rattle.numbers.specs.Writing.{HasRoom, Writes}
use Rattle.numbers.proofs.Writing.{Remains, remains-whole, remains-none, remains-room, remains-more, writes-lent}
use Rattle.fields.specs.Actions.{action}
use Rattle.blocks.proofs.Tasks.{action-count}
use Rattle.blocks.specs.Values.{problem}
use Rattle.merge.proofs.Putting.{both-actions}
use Rattle.merge.proofs.Writing.{next-action, next-before, no-action}
use Rattle.merge.proofs.halls.Halls.put_actions.Goals as goal

pub loop-step-init : goal.loop-step-init
loop-step-init c =
    subst (Remains _ _ _) (both-actions (problem c.args.self.now.first.now) (problem c.args.self.now.second.now)) (remains-whole c.requires)

pub put_action-requires-clause-room : goal.put_action-requires-clause-room
put_action-requires-clause-room c =
    let p = problem c.args.self.now.first.now in
    let a = action c.get.result in
    let seconds = actions_bytes (map (moved_action p.facts) (problem c.args.self.now.second.now).actions) in
    let h : c.loop-step.step < length p.actions = omega (arith, action-count c.args.self.now.first.now, c.loop-step-test.true) in
    remains-room c.loop-step.invariant (action_bytes (moved_action 0 a)) _ (next-before 0 p.actions c.loop-step.step a seconds h c.get.ensures.is)

pub loop-step-preserved : goal.loop-step-preserved
loop-step-preserved c =
    let p = problem c.args.self.now.first.now in
    let seconds = actions_bytes (map (moved_action p.facts) (problem c.args.self.now.second.now).actions) in
    let h : c.loop-step.step < length p.actions = omega (arith, action-count c.args.self.now.first.now, c.loop-step-test.true) in
    remains-more c.loop-step.invariant c.put_action.ensures (next-before 0 p.actions c.loop-step.step (action c.get.result) seconds h c.get.ensures.is)

pub loop-step-2-init : goal.loop-step-2-init
loop-step-2-init c =
    let p = problem c.args.self.now.first.now in
    let seconds = actions_bytes (map (moved_action p.facts) (problem c.args.self.now.second.now).actions) in
    let h : length p.actions ≤ c.loop-step.step = omega (arith, action-count c.args.self.now.first.now, c.loop-step-test.false) in
    remains-whole (subst (λ (x : List ℕ). HasRoom c.loop-step.place (x ++ seconds)) (no-action 0 c.loop-step.step p.actions h) c.loop-step.invariant.room)

pub put_action-requires-in-loop-step-2-clause-room : goal.put_action-requires-in-loop-step-2-clause-room
put_action-requires-in-loop-step-2-clause-room c =
    let n = (problem c.args.self.now.first.now).facts in
    let q = problem c.args.self.now.second.now in
    let a = action c.get-in-loop-step-2.result in
    let h : c.loop-step-2.step < length q.actions = omega (arith, action-count c.args.self.now.second.now, c.loop-step-2-test.true) in
    remains-room c.loop-step-2.invariant (action_bytes (moved_action n a)) _ (next-action n q.actions c.loop-step-2.step a h c.get-in-loop-step-2.ensures.is)

pub loop-step-2-preserved : goal.loop-step-2-preserved
loop-step-2-preserved c =
    let n = (problem c.args.self.now.first.now).facts in
    let q = problem c.args.self.now.second.now in
    let h : c.loop-step-2.step < length q.actions = omega (arith, action-count c.args.self.now.second.now, c.loop-step-2-test.true) in
    remains-more c.loop-step-2.invariant c.put_action-in-loop-step-2.ensures
    (next-action n q.actions c.loop-step-2.step (action c.get-in-loop-step-2.result) h c.get-in-loop-step-2.ensures.is)

pub returns : goal.returns
returns c =
    let p = problem c.args.self.now.first.now in
    let q = problem c.args.self.now.second.now in
    let h : length p.actions ≤ c.loop-step.step = omega (arith, action-count c.args.self.now.first.now, c.loop-step-test.false) in
    let k : length q.actions ≤ c.loop-step-2.step = omega (arith, action-count c.args.self.now.second.now, c.loop-step-2-test.false) in
    let after = remains-none c.loop-step-2.invariant (no-action p.facts c.loop-step-2.step q.actions k) in
    let w = c.loop-step.invariant.completes c.loop-step-2.place (rw (no-action 0 c.loop-step.step p.actions h) after) in
    let same = w.same in
    writes-lent _ _ w refl refl refl refl (search rules)
