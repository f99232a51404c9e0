-- what is left to read answers for all
use Rattle.std.proofs.Common.{◌≡◌, ◌-◌}
use Rattle.model.specs.ProblemBytes.{effects}
use Rattle.formula.specs.Readings.{forgotten}
use Rattle.fields.proofs.action.read_effects.Given as goal

abbrev pub invariant-loop : goal.invariant-loop
invariant-loop l = forgotten (effects l.s l.facts (l.n - l.counter) l.least l.begin) ≡ forgotten (effects l.s l.facts l.n 0 l.at)
