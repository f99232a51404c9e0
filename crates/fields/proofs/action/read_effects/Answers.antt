use Rattle.std.proofs.Common.{◌≡◌, ◌-◌, ◌+◌, ◌∙◌, sym, arith}
use Rattle.model.specs.Read.{done}
use Rattle.model.specs.ProblemBytes.{effects}
use Rattle.formula.specs.Readings.{forgotten}
use Rattle.fields.proofs.Readers.{effects-refused, effects-next}
use Rattle.formula.proofs.Readers.{returned}
use Rattle.fields.proofs.action.read_effects.Goals as goal

pub returns-in_err-next : goal.returns-in_err-next
returns-in_err-next c =
    rw (returned c.from_residual.result c.from_residual.ensures.1) (effects-refused _ _ _ _ _ (omega arith) c.in_err-next.ensures ∙ c.loop.invariant)

pub loop-preserved : goal.loop-preserved
loop-preserved c =
    sym (effects-next _ _ _ _ {n = c.args.n - c.loop.counter} {k = c.args.n - (c.loop.counter + 1)} (omega arith) c.in_ok-next.ensures) ∙ c.loop.invariant

pub returns : goal.returns
unfolding effects done forgotten
returns c = let e : c.args.n - c.loop.counter ≡ 0 = omega arith in rw e at c.loop.invariant
