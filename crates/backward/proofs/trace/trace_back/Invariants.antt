-- The set has what matters before the steps from i on.
use Rattle.blocks.specs.Values.{task}
use Rattle.backward.proofs.Tracing.{Tracing}
use Rattle.backward.proofs.trace.trace_back.Given as goal

abbrev pub invariant-loop-i : goal.invariant-loop-i
invariant-loop-i l = Tracing (task l.task) l.marks l.fn.after l.i l.matter
