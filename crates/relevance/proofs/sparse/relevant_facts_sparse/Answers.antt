use Rattle.std.proofs.lemmas.Result.{err_from_is_err_and}
use Rattle.std.proofs.Common.{arith}
use Rattle.model.specs.Relevance.{fewer_rows}
use Rattle.model.proofs.{Laws.Tracing.fewer-rows-keep, Guarantees.limits-sensible, Guarantees.read-sound}
use Rattle.blocks.proofs.{Promise.of-slice, Tasks.read_task-refused, Tasks.read_task-from, Tasks.plan-length}
use Rattle.relevance.proofs.{Answers.relevant-refused, Answers.relevant-read, Promise.relevant-promised, Within.read-within}
use Rattle.relevance.proofs.sparse.relevant_facts_sparse.Goals as goal

pub returns-in_err-found : goal.returns-in_err-found
returns-in_err-found c =
    let p = err_from_is_err_and c.from_residual.result c.from_residual.ensures.1 in
    let l = relevant-refused fewer_rows _ _ (read_task-refused _ _ c.args.plan.now _ c.in_err-found.ensures.read) c.args.state c.args.work.now in
    rw (p.1, p.2) (record { answer = l.0; buffer = l.1; promised = relevant-promised fewer_rows fewer-rows-keep _ (limits-sensible c.args.problem.now) c.args.state c.args.work.now _ (read-sound c.args.problem.now c.args.plan.now) l })

pub returns-in_err-task : goal.returns-in_err-task
returns-in_err-task c =
    let p = err_from_is_err_and c.from_residual-in_err-task.result c.from_residual-in_err-task.ensures.1 in
    let e = read_task-from _ _ c.args.plan.now c.in_ok-found.ensures.read c.in_ok-found.ensures.limits c.in_err-task.ensures.read in
    let l = relevant-refused fewer_rows _ _ e c.args.state c.args.work.now in
    rw (p.1, p.2) (record { answer = l.0; buffer = l.1; promised = relevant-promised fewer_rows fewer-rows-keep _ (limits-sensible c.args.problem.now) c.args.state c.args.work.now _ (read-sound c.args.problem.now c.args.plan.now) l })

pub relevant_facts_sparse_task-requires-clause-within : goal.relevant_facts_sparse_task-requires-clause-within
relevant_facts_sparse_task-requires-clause-within c =
    let e = read_task-from _ _ c.args.plan.now c.in_ok-found.ensures.read c.in_ok-found.ensures.limits c.in_ok-task.ensures.read in
    (read-within c.args.problem.now c.args.plan.now (of-slice c.args.problem.now c.type_inv.problem) (of-slice c.args.plan.now c.type_inv.plan) _ e).0

pub relevant_facts_sparse_task-requires-clause-short : goal.relevant_facts_sparse_task-requires-clause-short
relevant_facts_sparse_task-requires-clause-short c =
    let e = read_task-from _ _ c.args.plan.now c.in_ok-found.ensures.read c.in_ok-found.ensures.limits c.in_ok-task.ensures.read in
    let w = read-within c.args.problem.now c.args.plan.now (of-slice c.args.problem.now c.type_inv.problem) (of-slice c.args.plan.now c.type_inv.plan) _ e in
    omega (arith, w.1, plan-length c.in_ok-task.task)

pub returns : goal.returns
returns c =
    let e = read_task-from _ _ c.args.plan.now c.in_ok-found.ensures.read c.in_ok-found.ensures.limits c.in_ok-task.ensures.read in
    let l = relevant-read fewer_rows _ _ e c.args.state c.args.work.now _ _ c.relevant_facts_sparse_task.ensures in
    record { answer = l.0; buffer = l.1; promised = relevant-promised fewer_rows fewer-rows-keep _ (limits-sensible c.args.problem.now) c.args.state c.args.work.now _ (read-sound c.args.problem.now c.args.plan.now) l }
