use Rattle.search.proofs.Promise.{search-promised}
use Rattle.search.proofs.Whole.{search-refused, search-over, search-many, search-came}
use Rattle.formula.proofs.Readers.{returned}
use Rattle.search.proofs.operation.search_plans.Goals as goal

pub returns-in_err-found : goal.returns-in_err-found
returns-in_err-found c =
    let e = search-refused c.args.problem.now c.args.longest c.args.grant _ c.in_err-found.ensures.read in
    rw (returned c.from_residual.result c.from_residual.ensures.1) (record { answer = e; promised = search-promised c.args.problem.now c.args.longest c.args.grant _ e })

pub returns-then-longest : goal.returns-then-longest
returns-then-longest c =
    let e = search-over c.args.problem.now c.args.longest c.args.grant c.in_ok-found.found c.in_ok-found.ensures.read c.if-longest.true in
    rw c.at.ensures (record { answer = e; promised = search-promised c.args.problem.now c.args.longest c.args.grant _ e })

pub returns-then-plan_count-gt-MAX_PLANS : goal.returns-then-plan_count-gt-MAX_PLANS
returns-then-plan_count-gt-MAX_PLANS c =
    let e = search-many c.args.problem.now c.args.longest c.args.grant c.in_ok-found.found c.in_ok-found.ensures.read c.if-longest.false _ c.plan_count.ensures c.if-plan_count-gt-MAX_PLANS.true in
    rw c.at-then-plan_count-gt-MAX_PLANS.ensures (record { answer = e; promised = search-promised c.args.problem.now c.args.longest c.args.grant _ e })

pub returns : goal.returns
returns c =
    let e = search-came c.args.problem.now c.args.longest c.args.grant c.in_ok-found.found c.in_ok-found.ensures.read c.if-longest.false _ c.plan_count.ensures c.if-plan_count-gt-MAX_PLANS.false c.in_ok-found.ensures.limits c.search_problem.ensures in
    record { answer = e; promised = search-promised c.args.problem.now c.args.longest c.args.grant _ e }
