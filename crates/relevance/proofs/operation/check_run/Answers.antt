use Rattle.blocks.specs.Values.{task}
use Rattle.relevance.proofs.Answers.{checks-run}
use Rattle.relevance.proofs.operation.check_run.Goals as goal

pub returns-clause-checks : goal.returns-clause-checks
returns-clause-checks c = checks-run (task c.args.task.now) c.args.cases.now _ c.put_run.ensures.tells _ c.check_reached.ensures
