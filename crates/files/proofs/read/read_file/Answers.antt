-- what a turn read follows what stood before it
use Rattle.std.proofs.Common.{rules}
use Rattle.files.proofs.Filling.{Consumes-filled}
use Rattle.files.proofs.read.read_file.Goals as goal

pub loop-done-preserved : goal.loop-done-preserved
loop-done-preserved g c =
    (search rules, Consumes-filled _ _ _ _ _ _ _ _ c.loop-done.invariant.0 c.in_ok-got.ensures.bound.0 c.loop-done.invariant.1 c.in_ok-got.ensures.bytes.0)
