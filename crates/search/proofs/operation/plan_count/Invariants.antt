use Rattle.std.proofs.Common.{◌≡◌}
use Rattle.model.specs.Search.{plan_count}
use Rattle.search.proofs.operation.plan_count.Given as goal

abbrev pub invariant-loop : goal.invariant-loop
invariant-loop l = l.count ≡ plan_count l.actions l.counter
