use Rattle.std.proofs.Common.{refl, arith}
use Rattle.std.proofs.lemmas.Nat.{and_le_l}
use Rattle.std.proofs.lemmas.Result.{err_from_is_err_and}
use Rattle.fields.specs.Actions.{action}
use Rattle.fields.proofs.FirstEffect.{effects-rise}
use Rattle.step.proofs.Obeying.{unmet-hinders, obeys-none, left-hinders, obeys-left-of-fewer, obeys-some-of-fewer}
use Rattle.step.proofs.action.obey.Goals as goal

-- ---- no lane meets the precondition

pub returns-then-met-eq0-clause-hinders : goal.returns-then-met-eq0-clause-hinders
returns-then-met-eq0-clause-hinders c = unmet-hinders c.args.cases.now (action c.args.action) _ c.evaluate.result c.evaluate.ensures c.args.action.effects.facts c.if-met-eq0.true

pub returns-then-met-eq0-clause-obeys : goal.returns-then-met-eq0-clause-obeys
returns-then-met-eq0-clause-obeys c = λ few. obeys-none _ _ _ c.evaluate.result c.evaluate.ensures c.if-met-eq0.true

-- ---- all that do are in conflict

pub returns-in_err-lanes-clause-kept : goal.returns-in_err-lanes-clause-kept
returns-in_err-lanes-clause-kept c = rw (err_from_is_err_and c.from_residual.result c.from_residual.ensures.1).1 refl

pub returns-in_err-lanes-clause-hinders : goal.returns-in_err-lanes-clause-hinders
returns-in_err-lanes-clause-hinders c =
    let p = err_from_is_err_and c.from_residual.result c.from_residual.ensures.1 in
    rw (p.1, p.2) (left-hinders c.args.cases.now (action c.args.action) _ c.evaluate.result c.evaluate.ensures (omega arith) c.args.action.effects.facts _ c.in_err-lanes.ensures.finds)

pub returns-in_err-lanes-clause-obeys : goal.returns-in_err-lanes-clause-obeys
returns-in_err-lanes-clause-obeys c =
    let es = c.args.action.effects in
    let ok = effects-rise es.facts es.few_facts 0 es.count es.bytes.now es.sound in
    let p = err_from_is_err_and c.from_residual.result c.from_residual.ensures.1 in
    λ few. rw (p.1, p.2) (obeys-left-of-fewer _ _ _ c.evaluate.result c.evaluate.ensures (omega arith) es.facts few ok _ c.in_err-lanes.ensures.finds)

-- ---- some go on

pub returns-clause-among : goal.returns-clause-among
returns-clause-among c = omega (arith, c.in_ok-lanes.ensures.finds.among, and_le_l c.args.alive c.evaluate.result.sure)

pub returns-clause-obeys : goal.returns-clause-obeys
returns-clause-obeys c =
    let es = c.args.action.effects in
    let ok = effects-rise es.facts es.few_facts 0 es.count es.bytes.now es.sound in
    λ few.
    obeys-some-of-fewer _ _ _ c.evaluate.result c.evaluate.ensures (omega arith) es.facts few ok _ _ _ c.in_ok-lanes.ensures.finds
    (c.settle.ensures.steps (omega (arith, c.in_ok-lanes.ensures.facts)))
