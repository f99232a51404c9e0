-- What is left of the run goes on from the case in lane 0.
use Rattle.std.proofs.Common.{◌≡◌}
use Rattle.blocks.specs.Values.{task}
use Rattle.cases.specs.Cases.{case_of}
use Rattle.runs.proofs.Running.{Following}
use Rattle.runs.proofs.outcome.run_of_case.Given as goal

abbrev pub invariant-loop-i : goal.invariant-loop-i
invariant-loop-i l = (l.current.facts ≡ (task l.task).facts) × Following (task l.task) (case_of l.cases 0) l.i (case_of l.current 0)
