use Rattle.std.proofs.Common.{arith, add-one}
use Rattle.model.proofs.Laws.Tabulate.{length-tabulate, tabulate-last}
use Rattle.numbers.proofs.Writing.{writes-none, writes-append}
use Rattle.merge.proofs.operation.put_table.Goals as goal

pub loop-number-init : goal.loop-number-init
loop-number-init c = writes-none _

pub put-requires : goal.put-requires
put-requires c = omega (arith, c.loop-number.invariant, length-tabulate c.loop-number.number (λ i. i), length-tabulate c.args.count (λ i. i))

pub loop-number-preserved : goal.loop-number-preserved
loop-number-preserved c = rw (add-one, tabulate-last c.loop-number.number (λ i. i)) (writes-append c.loop-number.invariant c.put.ensures)
