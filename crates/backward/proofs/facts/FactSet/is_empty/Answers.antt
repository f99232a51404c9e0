use Rattle.std.proofs.Common.{arith}
use Rattle.backward.proofs.Sets.{set-empty}
use Rattle.backward.proofs.facts.FactSet.is_empty.Goals as goal

pub returns : goal.returns
returns c = set-empty c.args.self.word (omega arith)
