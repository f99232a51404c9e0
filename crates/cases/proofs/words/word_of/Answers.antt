use Rattle.std.proofs.Common.{◌-◌, arith}
use Rattle.std.proofs.Math.Pow.{shl_exact}
use Rattle.cases.proofs.Tables.{raised-case}
use Rattle.cases.proofs.words.word_of.Goals as goal

pub returns-clause-raised : goal.returns-clause-raised
returns-clause-raised c = let a = c.args in shl_exact {a = a.number} a.width (64 - a.width) 64 (omega arith) (omega arith)

pub returns-clause-same : goal.returns-clause-same
returns-clause-same c = rw (returns-clause-raised c) (raised-case c.args.width c.requires.word c.args.number)
