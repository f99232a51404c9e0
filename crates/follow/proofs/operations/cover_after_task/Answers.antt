use Rattle.std.proofs.lemmas.Result.{err_from_is_err_and}
use Rattle.blocks.specs.Values.{task}
use Rattle.follow.proofs.Following.{cover-unread, cover-lines}
use Rattle.follow.proofs.operations.cover_after_task.Goals as goal

pub returns-in_err-count : goal.returns-in_err-count
returns-in_err-count c =
    let p = err_from_is_err_and c.from_residual.result c.from_residual.ensures.1 in
    let t = c.args.task.now in
    rw (p.1, p.2) (cover-unread _ t.problem.now.sensible (task t) c.args.list.now c.args.lines _ c.in_err-count.ensures.counted)

pub returns : goal.returns
returns c =
    let t = c.args.task.now in
    cover-lines _ t.problem.now.sensible (task t) c.args.list.now c.args.lines _ c.in_ok-count.ensures.counted _ c.min.ensures _ c.follow_lines.ensures
