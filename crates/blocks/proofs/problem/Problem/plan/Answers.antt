use Rattle.std.proofs.Common.{arith}
use Rattle.model.proofs.Laws.Tabulate.{length-tabulate}
use Rattle.formula.proofs.{Decoding.part, Readers.next-refused, Readers.returned}
use Rattle.blocks.proofs.{Tasks.plan_read, Tasks.each_below, Tasks.plan-refused, Tasks.plan-task, Tasks.plan-unread, Tasks.plan-steps}
use Rattle.blocks.proofs.problem.Problem.plan.Goals as goal

pub returns-in_err-check_plan-clause-read : goal.returns-in_err-check_plan-clause-read
returns-in_err-check_plan-clause-read c =
    rw (returned c.from_residual.result c.from_residual.ensures.1) (plan-refused _ _ _ (length-tabulate _ _) _ (next-refused _ _ _ c.in_err-check_plan.ensures))

pub slice_bounds-of-count : goal.slice_bounds-of-count
slice_bounds-of-count c = let (steps, is, size, body, below) = plan_read _ _ c.type_inv.plan c.in_ok-check_plan.ensures in omega (arith, size)

pub slice_bounds-of-start : goal.slice_bounds-of-start
slice_bounds-of-start c = let (steps, is, size, body, below) = plan_read _ _ c.type_inv.plan c.in_ok-check_plan.ensures in omega (arith, size)

pub of-requires : goal.of-requires
of-requires c = let (steps, is, size, body, below) = plan_read _ _ c.type_inv.plan c.in_ok-check_plan.ensures in rw (part, body) (each_below steps below)

pub returns-clause-read : goal.returns-clause-read
returns-clause-read c =
    let (steps, is, size, body, below) = plan_read _ _ c.type_inv.plan c.in_ok-check_plan.ensures in
    rw (c.of.ensures.is, part, body) (plan-task _ _ _ (length-tabulate _ _) is)

pub returns-in_err-check_plan-clause-steps : goal.returns-in_err-check_plan-clause-steps
returns-in_err-check_plan-clause-steps c =
    rw (returned c.from_residual.result c.from_residual.ensures.1) (plan-unread _ (length-tabulate _ _) _ (next-refused _ _ _ c.in_err-check_plan.ensures))

pub returns-clause-steps : goal.returns-clause-steps
returns-clause-steps c =
    let (steps, is, size, body, below) = plan_read _ _ c.type_inv.plan c.in_ok-check_plan.ensures in
    rw (c.of.ensures.steps, part, body) (plan-steps _ (length-tabulate _ _) is)
