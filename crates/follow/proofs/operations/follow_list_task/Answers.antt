use Rattle.std.proofs.lemmas.Result.{err_from_is_err_and}
use Rattle.blocks.specs.Values.{task}
use Rattle.blocks.proofs.Tasks.{task-width}
use Rattle.follow.proofs.Following.{follow-unread, follow-fault, follow-short, follow-passes}
use Rattle.follow.proofs.Lines.{not-so}
use Rattle.follow.proofs.operations.follow_list_task.Goals as goal

pub returns-in_err-count : goal.returns-in_err-count
returns-in_err-count c =
    let p = err_from_is_err_and c.from_residual.result c.from_residual.ensures.1 in
    let t = c.args.task.now in
    rw (p.1, p.2) (follow-unread _ t.problem.now.sensible (task t) c.args.list.now _ c.in_err-count.ensures.counted)

pub returns-in_err-covered : goal.returns-in_err-covered
returns-in_err-covered c =
    let p = err_from_is_err_and c.from_residual-in_err-covered.result c.from_residual-in_err-covered.ensures.1 in
    let t = c.args.task.now in
    rw (p.1, p.2) (follow-fault _ t.problem.now.sensible (task t) c.args.list.now (task-width t) _ c.in_ok-count.ensures.counted _ c.in_err-covered.ensures)

pub returns-then-not-is_whole : goal.returns-then-not-is_whole
returns-then-not-is_whole c =
    let t = c.args.task.now in
    rw c.at.ensures
    (follow-short _ t.problem.now.sensible (task t) c.args.list.now (task-width t) _ c.in_ok-count.ensures.counted _ c.in_ok-covered.ensures
    (not-so c.is_whole.result c.is_whole.ensures c.if-not-is_whole.true))

pub returns : goal.returns
returns c =
    let t = c.args.task.now in
    let whole = c.is_whole.ensures.0 c.if-not-is_whole.false in
    follow-passes _ t.problem.now.sensible (task t) c.args.list.now (task-width t) _ c.in_ok-count.ensures.counted _ c.in_ok-covered.ensures whole
