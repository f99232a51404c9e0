use Rattle.std.proofs.Common.{arith}
use Rattle.std.proofs.lemmas.Result.{err_from_is_err_and}
use Rattle.follow.proofs.Following.{header-five, list-refused, partial-line, whole-lines}
use Rattle.follow.proofs.operations.count_lines.Goals as goal

pub returns-in_err-check_list_header-clause-counted : goal.returns-in_err-check_list_header-clause-counted
returns-in_err-check_list_header-clause-counted c =
    let p = err_from_is_err_and c.from_residual.result c.from_residual.ensures.1 in
    rw (p.1, p.2) (list-refused c.args.limits c.args.list.now _ _ c.in_err-check_list_header.ensures)

pub overflow_sub-body : goal.overflow_sub-body
overflow_sub-body c = header-five c.args.limits c.args.list.now _ c.in_ok-check_list_header.ensures

pub returns-then-body-limits-ne0-clause-counted : goal.returns-then-body-limits-ne0-clause-counted
returns-then-body-limits-ne0-clause-counted c =
    rw c.at_byte.ensures (partial-line c.args.limits c.args.list.now _ c.in_ok-check_list_header.ensures c.if-body-limits-ne0.true)

pub returns-clause-counted : goal.returns-clause-counted
returns-clause-counted c = whole-lines c.args.limits c.args.list.now _ c.in_ok-check_list_header.ensures c.if-body-limits-ne0.false

pub returns-clause-inside : goal.returns-clause-inside
returns-clause-inside c = omega (arith, header-five c.args.limits c.args.list.now _ c.in_ok-check_list_header.ensures)
