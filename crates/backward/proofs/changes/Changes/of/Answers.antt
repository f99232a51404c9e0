use Rattle.backward.proofs.{Words.ap, Words.effects, Words.effects-rise, Changing.changing-begins, Changing.changing-next, Changing.changing-ends}
use Rattle.backward.proofs.changes.Changes.of.Goals as goal

pub loop-effect-init : goal.loop-effect-init
loop-effect-init c = changing-begins _ _ _ (ap effects c.into_iter-effect-iterator.ensures.into_iter_gives)

pub loop-effect-preserved : goal.loop-effect-preserved
loop-effect-preserved c = changing-next _ _ _ _ _ _ _ c.in-Some.ensures.steps c.with-changes.ensures c.loop-effect.invariant

pub returns : goal.returns
returns c =
    let es = c.args.effects in
    changing-ends _ _ es.facts (effects-rise es.facts es.few_facts 0 es.count es.bytes.now es.sound) _ _ c.in-None.ensures.steps.0 c.loop-effect.invariant
