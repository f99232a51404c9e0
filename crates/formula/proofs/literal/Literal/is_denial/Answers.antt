use Rattle.formula.proofs.Leaves.{byte-denial}
use Rattle.formula.proofs.literal.Literal.is_denial.Goals as goal

pub returns : goal.returns
returns c = byte-denial c.args.self.byte
