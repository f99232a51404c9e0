-- what is left to check answers for all
use Rattle.std.proofs.Common.{◌≡◌, ◌-◌, length}
use Rattle.model.specs.ProblemBytes.{steps}
use Rattle.formula.specs.Readings.{forgotten}
use Rattle.blocks.proofs.plan.check_steps.Given as goal

abbrev pub invariant-loop-place : goal.invariant-loop-place
invariant-loop-place l =
    forgotten (steps l.s l.actions (length l.s - l.at) l.at) ≡ forgotten (steps l.s l.actions (length l.s - l.place) l.place)
