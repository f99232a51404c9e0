use Rattle.std.proofs.Common.{arith}
use Rattle.formula.specs.Views.{formulas}
use Rattle.merge.proofs.Members.{both-bytes}
use Rattle.merge.proofs.both.Both.len.Goals as goal

pub returns : goal.returns
returns c =
    let b = c.args.self in
    omega (arith, both-bytes b.shift (formulas b.first.formulas) (formulas b.second.formulas), c.len.ensures, c.len-2.ensures)
