-- The stretches from number s on are gone through.
use Rattle.backward.proofs.{Words.◌≡◌, Words.length, Words.task, Stretching.Going}
use Rattle.backward.proofs.stretches.trace_stretches.Given as goal

abbrev pub invariant-loop-s : goal.invariant-loop-s
invariant-loop-s l = (length l.marks ≡ 16) × Going (task l.task) l.kept l.fn.stretch l.s l.matter l.stretch
