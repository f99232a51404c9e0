-- a formula is a literal or a group
use Rattle.std.proofs.Common.{◌∙◌}
use Rattle.formula.proofs.Items.{item-refused, item-literal, item-group}
use Rattle.formula.proofs.Readers.{returned}
use Rattle.formula.proofs.read.Stated.read_outermost.Goals as goal

pub returns-then-has_literal : goal.returns-then-has_literal
returns-then-has_literal c = item-literal _ _ _ _ _ _ c.if-has_literal.ensures

pub returns-in_err-head : goal.returns-in_err-head
returns-in_err-head c = rw (returned c.from_residual.result c.from_residual.ensures.1) (item-refused _ _ _ _ _ _ _ c.in_err-head.ensures)

pub returns-in-All : goal.returns-in-All
returns-in-All c = c.read_all.ensures ∙ rw c.in-All.is at (item-group _ _ _ _ _ _ _ c.in_ok-head.ensures)

pub returns-in-Any : goal.returns-in-Any
returns-in-Any c = c.read_any.ensures ∙ rw c.in-Any.is at (item-group _ _ _ _ _ _ _ c.in_ok-head.ensures)
