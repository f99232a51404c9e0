use Rattle.blocks.proofs.Tasks.{facts-fit}
use Rattle.judge.proofs.Verdicts.{judges-undecided, judges-right, fails-at-state, judges-wrong}
use Rattle.judge.proofs.operation.judge_task.Goals as goal

pub returns-in-Ok : goal.returns-in-Ok
returns-in-Ok g c = judges-right _ _ (facts-fit c.args.task.now) _ _ _ _ c.in-Ok.ensures

pub returns-in-Err-OutOfVisits : goal.returns-in-Err-OutOfVisits
returns-in-Err-OutOfVisits g c =
    judges-undecided _ _ (facts-fit c.args.task.now) _ _ _ (rw c.in-Err-OutOfVisits.field-0-is at c.in-Err-OutOfVisits.ensures)

pub outcome_of-requires : goal.outcome_of-requires
outcome_of-requires g c =
    fails-at-state _ _ (facts-fit c.args.task.now) _ _ _ _ _ (rw c.in-Err-Failed.field-0-is at c.in-Err-Failed.ensures)

pub returns-in-Err-Failed : goal.returns-in-Err-Failed
returns-in-Err-Failed g c =
    judges-wrong _ _ (facts-fit c.args.task.now) _ _ _ _ _ (rw c.in-Err-Failed.field-0-is at c.in-Err-Failed.ensures) _ c.outcome_of.ensures
