use Rattle.std.proofs.Common.{arith}
use Rattle.formula.specs.Views.{formula as formula_of}
use Rattle.merge.proofs.Members.{parts-short, parts-moved}
use Rattle.merge.proofs.both.Both.of.Goals as goal

pub invariant_of-result : goal.invariant_of-result
invariant_of-result c =
    let a = c.parts.ensures in
    let b = c.parts-2.ensures in
    record {
      first_whole = a.whole;
      second_whole = b.whole;
      first_short = rw a.is (omega (arith, parts-short (formula_of c.args.first), c.requires.first));
      second_short = rw b.is (omega (arith, parts-short (formula_of c.args.second), c.requires.second));
      small = c.requires.shift;
    }

pub returns : goal.returns
returns c = rw (c.parts.ensures.is, c.parts-2.ensures.is, parts-moved c.args.shift (formula_of c.args.second))
