-- what is left of the stated bytes is refused
use Rattle.std.proofs.Common.{le-leb}
use borrow.Author.Tests.{lt-leb}
use Rattle.model.specs.Read.{require}
use Rattle.formula.specs.Readings.{forgotten}
use Rattle.formula.proofs.Lengths.{after_refused, after_read}
use Rattle.formula.proofs.Readers.{returned}
use Rattle.formula.proofs.read.Stated.read_whole.Goals as goal

pub returns-in_err-next : goal.returns-in_err-next
returns-in_err-next c =
    rw (returned c.from_residual.result c.from_residual.ensures.1) (after_refused _ _ _ _ _ c.in_err-next.ensures)

pub returns-then-next-self : goal.returns-then-next-self
unfolding forgotten require
returns-then-next-self c =
    let e = after_read _ _ _ _ _ c.in_ok-next.ensures in
    rw c.at_byte.ensures (rw (lt-leb _ _ c.if-next-self.true) at e)

pub returns : goal.returns
unfolding forgotten require
returns c = rw (le-leb _ _ c.if-next-self.false) at (after_read _ _ _ _ _ c.in_ok-next.ensures)
