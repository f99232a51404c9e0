use Rattle.std.proofs.lemmas.Result.{err_from_is_err_and}
use Rattle.model.proofs.Guarantees.{limits-sensible, read-sound}
use Rattle.blocks.proofs.Tasks.{read_task-refused, read_task-from}
use Rattle.execute.proofs.{Promise.run-promised, Starting.run-refused, Starting.run-found}
use Rattle.execute.proofs.operation.run.Goals as goal

pub returns-in_err-problem : goal.returns-in_err-problem
returns-in_err-problem c =
    let p = err_from_is_err_and c.from_residual.result c.from_residual.ensures.1 in
    let e = run-refused _ c.args.state _ (read_task-refused _ _ c.args.plan.now _ c.in_err-problem.ensures.read) in
    rw (p.1, p.2) (record { answer = e; promised = run-promised _ (limits-sensible c.args.problem.now) _ (read-sound c.args.problem.now c.args.plan.now) c.args.state _ e })

pub returns-in_err-task : goal.returns-in_err-task
returns-in_err-task c =
    let p = err_from_is_err_and c.from_residual-in_err-task.result c.from_residual-in_err-task.ensures.1 in
    let e = run-refused _ c.args.state _ (read_task-from _ _ c.args.plan.now c.in_ok-problem.ensures.read c.in_ok-problem.ensures.limits c.in_err-task.ensures.read) in
    rw (p.1, p.2) (record { answer = e; promised = run-promised _ (limits-sensible c.args.problem.now) _ (read-sound c.args.problem.now c.args.plan.now) c.args.state _ e })

pub returns : goal.returns
returns c =
    let e = run-found _ c.args.state _ (read_task-from _ _ c.args.plan.now c.in_ok-problem.ensures.read c.in_ok-problem.ensures.limits c.in_ok-task.ensures.read) c.run_task.ensures in
    record { answer = e; promised = run-promised _ (limits-sensible c.args.problem.now) _ (read-sound c.args.problem.now c.args.plan.now) c.args.state _ e }
