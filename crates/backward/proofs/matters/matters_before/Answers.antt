use Rattle.fields.specs.Actions.{action}
use Rattle.backward.proofs.Backward.{matters-by-sets}
use Rattle.backward.proofs.matters.matters_before.Goals as goal

pub returns : goal.returns
returns c =
    let a = c.args.action in
    matters-by-sets c.args.mark a.effects.facts a.effects.few_facts (action a) c.args.after c.sub-kept.result c.bitor.result c.bitor-2.result
    c.sub-kept.ensures c.bitor.ensures c.bitor-2.ensures c.facts_of_conditions-conditions.result c.facts_of_conditions-conditions.ensures
    c.named_facts.result c.named_facts.ensures c.bitor-3.result c.bitor-4.result c.bitor-3.ensures c.bitor-4.ensures
