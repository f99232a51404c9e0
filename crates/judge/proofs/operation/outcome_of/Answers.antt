use Rattle.std.proofs.Common.{◌∙◌}
use Rattle.blocks.specs.Values.{task}
use Rattle.runs.proofs.States.{state-run}
use Rattle.judge.proofs.operation.outcome_of.Goals as goal

pub returns : goal.returns
returns c = c.run_of_case.ensures ∙ state-run (task c.args.task.now) _ c.cases_of_state-cases.result c.cases_of_state-cases.ensures.state
