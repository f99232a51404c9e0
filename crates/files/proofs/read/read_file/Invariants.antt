-- what was read is within the buffer, begins it and is what the file lost; and each turn reads some of the rest
use Rattle.std.proofs.Common.{◌-◌, ◌≤◌, length, take}
use Rattle.std.specs.Io.KnownBytes.{Consumes}
use Rattle.files.proofs.read.read_file.Given as goal

abbrev pub decreases-loop-done : goal.decreases-loop-done
decreases-loop-done g l = length l.buf - l.done

abbrev pub invariant-loop-done : goal.invariant-loop-done
invariant-loop-done g l = (l.done ≤ length l.buf) × Consumes (g.R.Read.remaining l.initial.file) (g.R.Read.remaining l.file) (take l.done l.buf)
