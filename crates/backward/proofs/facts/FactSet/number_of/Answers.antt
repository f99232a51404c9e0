use Rattle.std.proofs.Common.{arith}
use Rattle.backward.proofs.Sets.{number-small, number-is}
use Rattle.backward.proofs.facts.FactSet.number_of.Goals as goal

pub returns-clause-small : goal.returns-clause-small
returns-clause-small c = number-small c.args.width c.args.self.word c.requires.word (omega arith)

pub returns-clause-number : goal.returns-clause-number
returns-clause-number c = λ m l h. number-is c.args.width c.args.self.word m c.requires.word (omega arith) l h
