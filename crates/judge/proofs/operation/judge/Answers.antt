use Rattle.std.proofs.Common.{◌∙◌, ap}
use Rattle.std.proofs.lemmas.Result.{err_from_is_err_and}
use Rattle.model.specs.Answer.{answered}
use Rattle.model.proofs.Guarantees.{limits-sensible, read-sound}
use Rattle.blocks.proofs.Tasks.{read_task-refused, read_task-from}
use Rattle.judge.proofs.{Promise.judge-promised, Verdicts.judge-refused, Verdicts.judge-found}
use Rattle.judge.proofs.operation.judge.Goals as goal

pub returns-in_err-found : goal.returns-in_err-found
returns-in_err-found c =
    let p = err_from_is_err_and c.from_residual.result c.from_residual.ensures.1 in
    let e = judge-refused _ _ (read_task-refused _ _ c.args.plan.now _ c.in_err-found.ensures.read) c.args.grant in
    rw (p.1, p.2) (record { answer = e; promised = judge-promised _ (limits-sensible c.args.problem.now) _ (read-sound c.args.problem.now c.args.plan.now) c.args.grant _ e })

pub returns-in_err-task : goal.returns-in_err-task
returns-in_err-task c =
    let p = err_from_is_err_and c.from_residual-in_err-task.result c.from_residual-in_err-task.ensures.1 in
    let e = judge-refused _ _ (read_task-from _ _ c.args.plan.now c.in_ok-found.ensures.read c.in_ok-found.ensures.limits c.in_err-task.ensures.read) c.args.grant in
    rw (p.1, p.2) (record { answer = e; promised = judge-promised _ (limits-sensible c.args.problem.now) _ (read-sound c.args.problem.now c.args.plan.now) c.args.grant _ e })

pub returns : goal.returns
returns c =
    let read = read_task-from _ _ c.args.plan.now c.in_ok-found.ensures.read c.in_ok-found.ensures.limits c.in_ok-task.ensures.read in
    let e = ap answered c.judge_task.ensures.answer ∙ judge-found _ _ read c.args.grant in
    record { answer = e; promised = judge-promised _ (limits-sensible c.args.problem.now) _ (read-sound c.args.problem.now c.args.plan.now) c.args.grant _ e }
