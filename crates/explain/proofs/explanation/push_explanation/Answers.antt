use Rattle.std.proofs.Common.{◌∙◌, arith}
use Rattle.std.specs.String.{string_bytes}
use Rattle.model.specs.Case.{state_of}
use Rattle.model.specs.Operations.{task_of}
use Rattle.blocks.specs.Values.{problem, task}
use Rattle.runs.proofs.States.{case-known}
use Rattle.names.specs.Views.{names}
use Rattle.told.specs.States.{state_text}
use Rattle.explain.specs.Told.{explanation}
use Rattle.explain.specs.Tells.{told_from}
use Rattle.explain.proofs.Known.{has-state}
use Rattle.explain.proofs.Texts.{start-text}
use Rattle.explain.proofs.explanation.push_explanation.Goals as goal

pub push_run-requires-clause-known : goal.push_run-requires-clause-known
push_run-requires-clause-known c =
    let T = task c.args.task.now in
    let known = c.in_ok-cases.ensures.state.cases 0 (omega arith) ∙ case-known T.width T.facts c.args.state in
    (has-state c.in_ok-cases.cases (state_of T.width T.facts c.args.state) known).0

pub returns : goal.returns
unfolding explanation task_of
returns c =
    let T = task c.args.task.now in
    let N = names c.args.names in
    let p = problem c.args.task.now.problem.now in
    let s = state_of T.width T.facts c.args.state in
    let known = c.in_ok-cases.ensures.state.cases 0 (omega arith) ∙ case-known T.width T.facts c.args.state in
    let same = (has-state c.in_ok-cases.cases s known).1 in (
      c.in_ok-cases.ensures.state.is,
      (rw (c.in_ok-writeln.ensures.bytes, same) at c.in_ok-push_run.ensures) ∙
          start-text (string_bytes c.args.out.now) (state_text N c.args.task.now.problem.now.limits p.facts c.args.state) (told_from N p c.args.task.now.steps.now 0 s),
    )
