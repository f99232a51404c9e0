-- The steps before this one are obeyed in the lanes that are left.
use Rattle.std.proofs.Common.{◌≡◌}
use Rattle.blocks.specs.Values.{task}
use Rattle.cases.specs.Cases.{case_of}
use Rattle.runs.specs.Looks.{Running}
use Rattle.runs.proofs.lanes.run_lanes.Given as goal

abbrev pub invariant-loop-i : goal.invariant-loop-i
invariant-loop-i l = (l.cases.facts ≡ (task l.task).facts) × Running (task l.task) l.lanes (case_of l.fn.cases) l.i l.alive (case_of l.cases)
