use Rattle.std.proofs.Common.{arith}
use Rattle.lines.proofs.Stores.{filled-is}
use Rattle.lines.proofs.line.Line.fill.Goals as goal

pub returns : goal.returns
returns c = filled-is _ _ _ _ (omega arith) c.from.ensures c.put_number.ensures
