-- the numbers so far were written
use Rattle.numbers.specs.Writing.{Writes}
use Rattle.model.specs.Merging.{new_numbers}
use Rattle.merge.proofs.operation.put_table.Given as goal

abbrev pub invariant-loop-number : goal.invariant-loop-number
invariant-loop-number l = Writes l.fn.writer (new_numbers l.number) l.writer
