use Rattle.std.proofs.Common.{arith}
use Rattle.lines.proofs.Stores.{adds-line}
use Rattle.lines.proofs.line.Line.put.Goals as goal

pub returns : goal.returns
returns c = adds-line _ (omega arith) _ _ _ (omega arith) _ c.fill.ensures
