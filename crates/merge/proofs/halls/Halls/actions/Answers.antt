use Rattle.std.proofs.Common.{arith}
use Rattle.blocks.specs.Values.{problem}
use Rattle.blocks.proofs.Tasks.{action-count}
use Rattle.merge.proofs.Sound.{halls-count}
use Rattle.merge.proofs.halls.Halls.actions.Goals as goal

pub returns : goal.returns
returns c =
    let p = c.args.self.now.first.now in
    let q = c.args.self.now.second.now in
    omega (arith, halls-count (problem p) (problem q), action-count p, action-count q)
