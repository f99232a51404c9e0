use Rattle.std.proofs.Common.{◌+◌, ◌-◌, ◌*◌}
use Rattle.walk.specs.Tables.{AtFirst}
use Rattle.search.proofs.Alike.{Tried}
use Rattle.search.proofs.below.Begun.+plans.Given as goal

abbrev pub decreases-try_below : goal.decreases-try_below
decreases-try_below l = 3 * l.more

abbrev pub decreases-try_step : goal.decreases-try_step
decreases-try_step l = 3 * l.more + 2

abbrev pub decreases-try_obeyed : goal.decreases-try_obeyed
decreases-try_obeyed l = 3 * l.more + 1

-- the plans with a lower step next are tried
abbrev pub invariant-try_below-loop-step : goal.invariant-try_below-loop-step
invariant-try_below-loop-step l =
    Tried l.self.root.now.problem.now l.self.plan l.more (l.more - 1) l.left l.rest l.step × AtFirst l.tables l.self.root.now.problem.now.facts
