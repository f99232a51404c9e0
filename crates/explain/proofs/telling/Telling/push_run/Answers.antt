use Rattle.std.proofs.Common.{◌∙◌, [], ◌∷◌, ◌++◌, ◌+◌, ◌≤◌, drop, get_or, arith}
use Rattle.std.specs.String.{string_bytes}
use Rattle.names.specs.Views.{names}
use Rattle.blocks.specs.Values.{problem}
use Rattle.blocks.proofs.Tasks.{plan-action}
use Rattle.fields.specs.Actions.{action}
use Rattle.explain.specs.States.{state_in}
use Rattle.explain.specs.Told.{step_head, changes_text, block_text}
use Rattle.explain.specs.Tells.{told_from}
use Rattle.explain.proofs.Runs.{run-stops, run-next, run-ends, state-next}
use Rattle.explain.proofs.Texts.{text-next, last-text, on-ok}
use Rattle.explain.proofs.telling.Telling.push_run.Goals as goal

pub returns-in-Err : goal.returns-in-Err
returns-in-Err c =
    let N = names c.args.self.names in
    let p = problem c.args.self.task.now.problem.now in
    let steps = c.args.self.task.now.steps.now in
    let i = c.loop-i.i in
    let before = c.loop-i.current in
    let a = action c.action-action.result in
    let is = c.action-action.ensures.is ∙ plan-action c.args.self.task.now i c.loop-i-test.true in
    let few : c.action-action.result.effects.facts ≤ before.facts = omega (arith, c.action-action.ensures.facts, c.loop-i.invariant.0) in
    let stop = run-stops N p steps i before c.loop-i.invariant.1 c.loop-i.invariant.0 c.loop-i-test.true a is c.obey.new.cases c.in-Err.hindrance (c.in-Err.ensures.obeys few) in
    last-text _ (string_bytes c.loop-i.out) (step_head N i (get_or steps i 0)) (block_text N p a (state_in before)) _ c.in_ok-write.ensures.bytes
    (rw stop at c.loop-i.invariant.2) c.push_block.ensures

pub loop-i-preserved : goal.loop-i-preserved
loop-i-preserved c =
    let N = names c.args.self.names in
    let p = problem c.args.self.task.now.problem.now in
    let steps = c.args.self.task.now.steps.now in
    let i = c.loop-i.i in
    let before = c.loop-i.current in
    let after = c.obey.new.cases in
    let a = action c.action-action.result in
    let is = c.action-action.ensures.is ∙ plan-action c.args.self.task.now i c.loop-i-test.true in
    let few : c.action-action.result.effects.facts ≤ before.facts = omega (arith, c.action-action.ensures.facts, c.loop-i.invariant.0) in
    let changes = changes_text N (state_in before) (state_in after) 0 before.facts in
    let rest = told_from N p (drop (i + 1) steps) (i + 1) (state_in after) in
    let next = run-next N p steps i before c.loop-i.invariant.1 c.loop-i.invariant.0 c.loop-i-test.true a is after _ (c.in_default.ensures.obeys few) in
    let head = text-next (string_bytes c.loop-i.out) (step_head N i (get_or steps i 0)) (changes ++ (10 ∷ rest)) c.in_ok-write.ensures.bytes (rw next at c.loop-i.invariant.2) in (
      c.obey.ensures.facts ∙ c.loop-i.invariant.0,
      state-next N p steps i before c.loop-i.invariant.1 c.loop-i.invariant.0 c.loop-i-test.true a is after _ (c.in_default.ensures.obeys few),
      text-next (string_bytes c.push_changes.new.out) (10 ∷ []) rest c.in_ok-push_str.ensures.bytes
          (text-next (string_bytes c.write.new.self) changes (10 ∷ rest) c.in_ok-push_changes.ensures head),
    )

pub returns : goal.returns
returns c =
    let N = names c.args.self.names in
    let p = problem c.args.self.task.now.problem.now in
    let end = run-ends N p c.args.self.task.now.steps.now c.loop-i.i c.loop-i.current c.loop-i-test.false in
    on-ok _ _ (rw end at c.loop-i.invariant.2) c.push_end.ensures
