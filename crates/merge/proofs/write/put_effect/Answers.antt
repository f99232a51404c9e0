use Rattle.numbers.proofs.Writing.{writes-append}
use Rattle.merge.proofs.Writing.{literal-moved}
use Rattle.merge.proofs.write.put_effect.Goals as goal

pub returns : goal.returns
returns c = rw (literal-moved c.args.shift _ _ c.byte.ensures) (writes-append c.put.ensures c.put_formula.ensures)
