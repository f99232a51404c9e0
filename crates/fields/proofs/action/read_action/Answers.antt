use Rattle.std.proofs.Common.{◌∙◌, sym}
use Rattle.model.specs.Read.{◌>>=◌, and_then, done}
use Rattle.model.specs.ProblemBytes.{action}
use Rattle.formula.proofs.Readers.{next-got, then_next, returned}
use Rattle.fields.proofs.Readers.{stays-refused}
use Rattle.fields.proofs.action.read_action.Goals as goal

pub returns-in_err-next : goal.returns-in_err-next
unfolding action ◌>>=◌
returns-in_err-next c =
    rw (returned c.from_residual.result c.from_residual.ensures.1) (stays-refused _ _ c.in_err-next.ensures)

pub returns : goal.returns
unfolding action ◌>>=◌ and_then done
returns c =
    let g = next-got _ _ c.in_ok-next.ensures in
    rw g.is (c.read_effect_list.ensures ∙ sym (then_next _ _))
