use Rattle.backward.proofs.Words.{sym, ap, ◌∙◌, effects, effects-rise}
use Rattle.backward.proofs.Changing.{gathering-begins, gathering-asked, gathering-passed, gathering-ends}
use Rattle.backward.proofs.matters.facts_of_conditions.Goals as goal

pub loop-effect-init : goal.loop-effect-init
loop-effect-init c = gathering-begins c.args.set c.args.cleared _ _ (ap effects c.into_iter-effect-iterator.ensures.into_iter_gives)

pub loop-effect-preserved-then-is_asked : goal.loop-effect-preserved-then-is_asked
loop-effect-preserved-then-is_asked c =
    gathering-asked c.args.set c.args.cleared c.loop-effect.facts c.bitor-facts.result c.named_facts.result _ _ _ _ c.in-Some.ensures.steps
    (sym c.is_asked.ensures ∙ c.if-is_asked.true) c.named_facts.ensures c.bitor-facts.ensures c.loop-effect.invariant

pub loop-effect-preserved : goal.loop-effect-preserved
loop-effect-preserved c =
    gathering-passed c.args.set c.args.cleared c.loop-effect.facts _ _ _ _ c.in-Some.ensures.steps (sym c.is_asked.ensures ∙ c.if-is_asked.false)
    c.loop-effect.invariant

pub returns : goal.returns
returns c =
    let es = c.args.effects in
    gathering-ends c.args.set c.args.cleared es.facts c.loop-effect.facts _ _ (effects-rise es.facts es.few_facts 0 es.count es.bytes.now es.sound)
    c.in-None.ensures.steps.0 c.loop-effect.invariant
