use Rattle.formula.proofs.Leaves.{byte-fact}
use Rattle.formula.proofs.literal.Literal.fact.Goals as goal

pub returns-clause-is : goal.returns-clause-is
returns-clause-is c = byte-fact c.args.self.byte c.args.self.one
