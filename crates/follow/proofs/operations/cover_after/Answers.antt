use Rattle.std.proofs.lemmas.Result.{err_from_is_err_and}
use Rattle.model.proofs.Guarantees.{limits-sensible, read-sound}
use Rattle.blocks.proofs.Tasks.{read_task-refused, read_task-from, of-version}
use Rattle.follow.proofs.Following.{cover-refused, cover-found}
use Rattle.follow.proofs.Promise.{cover-promised}
use Rattle.follow.proofs.Versions.{of-a-version}
use Rattle.follow.proofs.operations.cover_after.Goals as goal

pub returns-in_err-found : goal.returns-in_err-found
returns-in_err-found c =
    let p = err_from_is_err_and c.from_residual.result c.from_residual.ensures.1 in
    let e = cover-refused _ _ c.args.list.now c.args.lines _ (read_task-refused _ _ c.args.plan.now _ c.in_err-found.ensures.read) in
    rw (p.1, p.2) (record { answer = e; promised = cover-promised _ (limits-sensible c.args.problem.now) _ (read-sound c.args.problem.now c.args.plan.now) _ _ _ e })

pub returns-in_err-task : goal.returns-in_err-task
returns-in_err-task c =
    let p = err_from_is_err_and c.from_residual-in_err-task.result c.from_residual-in_err-task.ensures.1 in
    let read = read_task-from _ _ c.args.plan.now c.in_ok-found.ensures.read c.in_ok-found.ensures.limits c.in_err-task.ensures.read in
    let e = cover-refused _ _ c.args.list.now c.args.lines _ read in
    rw (p.1, p.2) (record { answer = e; promised = cover-promised _ (limits-sensible c.args.problem.now) _ (read-sound c.args.problem.now c.args.plan.now) _ _ _ e })

pub cover_after_task-requires : goal.cover_after_task-requires
cover_after_task-requires c = of-a-version c.args.problem.now _ (of-version c.in_ok-task.task _ c.in_ok-task.ensures.problem c.in_ok-found.ensures.limits)

pub returns : goal.returns
returns c =
    let read = read_task-from _ _ c.args.plan.now c.in_ok-found.ensures.read c.in_ok-found.ensures.limits c.in_ok-task.ensures.read in
    let limits = of-version c.in_ok-task.task _ c.in_ok-task.ensures.problem c.in_ok-found.ensures.limits in
    let e = cover-found _ _ c.args.list.now _ read _ limits c.args.lines _ c.cover_after_task.ensures in
    record { answer = e; promised = cover-promised _ (limits-sensible c.args.problem.now) _ (read-sound c.args.problem.now c.args.plan.now) _ _ _ e }
