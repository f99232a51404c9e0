use Rattle.std.proofs.Common.{ap, ◌∙◌, sym}
use Rattle.model.specs.Answer.{answered, ◌>>=◌}
use Rattle.blocks.proofs.{Promise.plan-promised, Tasks.plan-length, Tasks.read_plan-refused, Tasks.read_plan-from}
use Rattle.formula.proofs.Readers.{returned}
use Rattle.blocks.proofs.operations.read_plan.Goals as goal

pub returns-in_err-problem : goal.returns-in_err-problem
returns-in_err-problem c =
    let e = read_plan-refused _ _ c.args.plan.now _ c.in_err-problem.ensures.read in
    rw (returned c.from_residual.result c.from_residual.ensures.1) (record { answer = e; promised = plan-promised _ _ c.type_inv.problem c.type_inv.plan _ e })

pub returns-in_err-task : goal.returns-in_err-task
unfolding ◌>>=◌
returns-in_err-task c =
    let e = read_plan-from _ _ c.args.plan.now _ c.in_ok-problem.ensures.read c.in_err-task.ensures.read in
    rw (returned c.from_residual-in_err-task.result c.from_residual-in_err-task.ensures.1) (record { answer = e; promised = plan-promised _ _ c.type_inv.problem c.type_inv.plan _ e })

pub returns : goal.returns
unfolding ◌>>=◌
returns c =
    let n = plan-length c.in_ok-task.task in
    let e = ap answered (sym n) ∙ read_plan-from _ _ c.args.plan.now _ c.in_ok-problem.ensures.read c.in_ok-task.ensures.read in
    record { answer = e; promised = plan-promised _ _ c.type_inv.problem c.type_inv.plan _ e }
