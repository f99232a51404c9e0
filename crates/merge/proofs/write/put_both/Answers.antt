use Rattle.std.proofs.Common.{refl, ap, ℕ, arith, length, length-append}
use Rattle.numbers.proofs.Writing.{writes-append}
use Rattle.merge.proofs.Writing.{both-pieces}
use Rattle.merge.proofs.write.put_both.Goals as goal

pub put_number-requires-clause-room : goal.put_number-requires-clause-room
put_number-requires-clause-room c = omega (arith, ap length (both-pieces c.args.both _ _ _ c.len.ensures refl refl), length-append {A = ℕ})

pub put_pair-requires : goal.put_pair-requires
put_pair-requires c = omega (arith, ap length (both-pieces c.args.both _ _ _ c.len.ensures refl refl), length-append {A = ℕ})

pub put_formulas-requires-clause-room : goal.put_formulas-requires-clause-room
put_formulas-requires-clause-room c = omega (arith, ap length (both-pieces c.args.both _ _ _ c.len.ensures refl refl), length-append {A = ℕ})

pub put_formulas-requires-2-clause-room : goal.put_formulas-requires-2-clause-room
put_formulas-requires-2-clause-room c = omega (arith, ap length (both-pieces c.args.both _ _ _ c.len.ensures refl refl), length-append {A = ℕ})

pub returns : goal.returns
returns c =
    rw (both-pieces c.args.both _ _ _ c.len.ensures c.into.ensures c.count.ensures)
    (writes-append c.put_number.ensures (writes-append c.put_pair.ensures (writes-append c.put_formulas.ensures c.put_formulas-2.ensures)))
