use Rattle.model.specs.Read.{◌>>=◌, and_then}
use Rattle.model.specs.ProblemBytes.{effect_list}
use Rattle.formula.specs.Readings.{forgotten}
use Rattle.formula.proofs.Readers.{returned}
use Rattle.fields.proofs.action.read_effect_list.Goals as goal

pub returns-in_err-n : goal.returns-in_err-n
unfolding effect_list ◌>>=◌ and_then forgotten
returns-in_err-n c =
    rw (returned c.from_residual.result c.from_residual.ensures.1, ← c.in_err-n.ensures.is)

pub returns : goal.returns
unfolding effect_list ◌>>=◌ and_then
returns c = rw (← c.in_ok-n.ensures.is) c.read_effects.ensures
