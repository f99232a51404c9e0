use Rattle.blocks.specs.Values.{task}
use Rattle.relevance.proofs.Answers.{checks-run}
use Rattle.relevance.proofs.sparse.check_kept.Goals as goal

pub returns-clause-checks : goal.returns-clause-checks
returns-clause-checks c = checks-run (task c.args.task.now) c.args.cases.now _ c.keep_rows.ensures.tells _ c.check_reached.ensures
