use Rattle.std.proofs.lemmas.Result.{err_from_is_err_and}
use Rattle.model.proofs.Guarantees.{limits-sensible, read-sound}
use Rattle.blocks.proofs.Tasks.{read_task-refused, read_task-from, of-version}
use Rattle.certificate.proofs.Lists.{list-refused, list-found}
use Rattle.certificate.proofs.Promise.{write-promised}
use Rattle.certificate.proofs.write.write_list.Goals as goal

pub returns-in_err-found : goal.returns-in_err-found
returns-in_err-found c =
    let p = err_from_is_err_and c.from_residual.result c.from_residual.ensures.1 in
    let e = list-refused _ _ _ (read_task-refused _ _ c.args.plan.now _ c.in_err-found.ensures.read) c.args.grant c.args.out.now in
    rw (p.1, p.2) (record { answer = e.0; buffer = e.1; promised = write-promised _ (limits-sensible c.args.problem.now) _ (read-sound c.args.problem.now c.args.plan.now) c.args.grant c.args.out.now e })

pub returns-in_err-task : goal.returns-in_err-task
returns-in_err-task c =
    let p = err_from_is_err_and c.from_residual-in_err-task.result c.from_residual-in_err-task.ensures.1 in
    let read = read_task-from _ _ c.args.plan.now c.in_ok-found.ensures.read c.in_ok-found.ensures.limits c.in_err-task.ensures.read in
    let e = list-refused _ _ _ read c.args.grant c.args.out.now in
    rw (p.1, p.2) (record { answer = e.0; buffer = e.1; promised = write-promised _ (limits-sensible c.args.problem.now) _ (read-sound c.args.problem.now c.args.plan.now) c.args.grant c.args.out.now e })

pub returns : goal.returns
returns c =
    let read = read_task-from _ _ c.args.plan.now c.in_ok-found.ensures.read c.in_ok-found.ensures.limits c.in_ok-task.ensures.read in
    let limits = of-version c.in_ok-task.task _ c.in_ok-task.ensures.problem c.in_ok-found.ensures.limits in
    let e = list-found _ _ _ _ read limits c.args.grant c.args.out.now _ _ (c.write_list_task.ensures.answer, c.write_list_task.ensures.buffer) in
    record { answer = e.0; buffer = e.1; promised = write-promised _ (limits-sensible c.args.problem.now) _ (read-sound c.args.problem.now c.args.plan.now) c.args.grant c.args.out.now e }
