use Rattle.blocks.proofs.{Promise.problem-promised, Tasks.read_problem-refused, Tasks.read_problem-found}
use Rattle.formula.proofs.Readers.{returned}
use Rattle.blocks.proofs.operations.read_problem.Goals as goal

pub returns-in_err-problem : goal.returns-in_err-problem
returns-in_err-problem c =
    let e = read_problem-refused _ _ _ c.in_err-problem.ensures.read in
    rw (returned c.from_residual.result c.from_residual.ensures.1) (record { answer = e; promised = problem-promised _ c.type_inv.s _ e })

pub returns : goal.returns
returns c =
    let e = read_problem-found _ _ c.in_ok-problem.problem c.in_ok-problem.ensures.read in
    record { answer = e; promised = problem-promised _ c.type_inv.s _ e }
