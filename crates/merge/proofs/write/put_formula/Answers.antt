use Rattle.std.proofs.Common.{refl, ap, ℕ, arith, length, length-append}
use Rattle.model.specs.Formula.{none, more}
use Rattle.numbers.proofs.Writing.{writes-append}
use Rattle.formula.specs.Views.{formula}
use Rattle.merge.proofs.Writing.{formula-pieces}
use Rattle.merge.proofs.write.put_formula.Goals as goal

pub put_number-requires-clause-room : goal.put_number-requires-clause-room
put_number-requires-clause-room c =
    let f = formula c.args.formula in
    omega (arith, ap length (formula-pieces c.args.shift f (more f none) _ refl c.len.ensures), length-append {A = ℕ})

pub put_formulas-requires-clause-room : goal.put_formulas-requires-clause-room
put_formulas-requires-clause-room c = omega (arith, ap length (formula-pieces c.args.shift _ _ _ c.alone.ensures c.len.ensures), length-append {A = ℕ})

pub returns : goal.returns
returns c = rw (formula-pieces c.args.shift _ _ _ c.alone.ensures c.len.ensures) (writes-append c.put_number.ensures c.put_formulas.ensures)
