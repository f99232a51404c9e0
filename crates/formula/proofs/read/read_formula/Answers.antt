-- a formula by its length field
use Rattle.std.proofs.Common.{◌∙◌}
use Rattle.formula.proofs.Lengths.{formula-refused, formula-next}
use Rattle.formula.proofs.Readers.{returned}
use Rattle.formula.proofs.read.read_formula.Goals as goal

pub returns-in_err-end : goal.returns-in_err-end
returns-in_err-end c =
    rw (returned c.from_residual.result c.from_residual.ensures.1) (formula-refused _ _ _ _ c.in_err-end.ensures)

pub returns-then-is_plain : goal.returns-then-is_plain
returns-then-is_plain c = c.is_plain.ensures c.if-is_plain.true ∙ formula-next _ _ _ _ c.in_ok-end.ensures

pub returns : goal.returns
returns c = c.read_whole.ensures ∙ formula-next _ _ _ _ c.in_ok-end.ensures
