use Rattle.std.proofs.Common.{arith}
use Rattle.search.proofs.Beginning.{begun-root}
use Rattle.search.proofs.Alike.{shorter-none, shorter-ended, shorter-one, shorter-all}
use Rattle.formula.proofs.Readers.{returned}
use Rattle.search.proofs.below.try_lengths.Goals as goal

pub invariant_of-begun : goal.invariant_of-begun
invariant_of-begun c = record { begun = rw c.empty.ensures (begun-root c.args.root.now) }

pub loop-length-init : goal.loop-length-init
loop-length-init c = (shorter-none _ _ _, c.first-tables.ensures)

pub returns-in_err-left : goal.returns-in_err-left
returns-in_err-left c =
    rw (returned c.from_residual.result c.from_residual.ensures.1) (shorter-ended _ _ _ _ _ c.loop-length.invariant.0 (omega arith) _ (rw c.empty.ensures at c.in_err-left.ensures.comes))

pub loop-length-preserved : goal.loop-length-preserved
loop-length-preserved c =
    (shorter-one _ _ _ _ _ c.loop-length.invariant.0 (omega arith) _ (rw c.empty.ensures at c.in_ok-left.ensures.comes), c.in_ok-left.ensures.stands)

pub returns : goal.returns
returns c = shorter-all _ _ _ _ _ c.loop-length.invariant.0 (omega arith)
