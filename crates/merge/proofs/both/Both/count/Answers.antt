use Rattle.std.proofs.Common.{arith}
use Rattle.formula.specs.Views.{formulas}
use Rattle.merge.proofs.Members.{both-count}
use Rattle.merge.proofs.both.Both.count.Goals as goal

pub returns : goal.returns
returns c =
    let b = c.args.self in
    omega (arith, both-count b.shift (formulas b.first.formulas) (formulas b.second.formulas), b.first_whole, b.second_whole)
