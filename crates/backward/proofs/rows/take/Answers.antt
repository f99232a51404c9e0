use Rattle.backward.proofs.Words.{◌≡◌, sym, ap, subst, ◌∙◌, ℕ, ◌<◌, arith, is_yes, Rising, action, effects, effects-rise}
use Rattle.backward.proofs.Making.{changes-inside, unmet, conflicting, taken}
use Rattle.fields.specs.declared.actions.Effects.{Effects}
use Rattle.backward.proofs.rows.take.Goals as goal

rises : (es : Effects) (n : ℕ) → es.facts ≡ n → Rising n 0 (effects es)
rises es n e = subst (λ (m : ℕ). Rising m 0 (effects es)) e (effects-rise es.facts es.few_facts 0 es.count es.bytes.now es.sound)

pub returns-then-not-holds-clause-takes : goal.returns-then-not-holds-clause-takes
returns-then-not-holds-clause-takes c =
    let zero : 0 < 64 = omega arith in
    let a = c.args.action in
    λ st shown.
    unmet c.args.cases.now (action a) st shown
    (sym (c.is_yes-holds.ensures ∙ ap is_yes (c.evaluate.ensures 0 zero)) ∙ c.if-not-holds.true)

pub returns-then-not-is_empty-clause-takes : goal.returns-then-not-is_empty-clause-takes
returns-then-not-is_empty-clause-takes c =
    let a = c.args.action in
    λ st shown.
    conflicting c.args.cases.now (action a) c.of-changes.result c.of-changes.ensures (rises a.effects _ c.requires.facts) st shown
    c.bitand-conflict.result c.bitand-conflict.ensures (sym c.is_empty.ensures ∙ c.if-not-is_empty.true)

pub make-requires-clause-inside : goal.make-requires-clause-inside
make-requires-clause-inside c =
    let a = c.args.action in
    changes-inside c.args.cases.now (action a) c.of-changes.result c.of-changes.ensures (rises a.effects _ c.requires.facts)

pub returns-clause-takes : goal.returns-clause-takes
returns-clause-takes c =
    let zero : 0 < 64 = omega arith in
    let a = c.args.action in
    λ st shown r.
    taken c.args.cases.now (action a) c.of-changes.result c.of-changes.ensures (rises a.effects _ c.requires.facts) st shown
    c.bitand-conflict.result c.bitand-conflict.ensures (sym (c.is_yes-holds.ensures ∙ ap is_yes (c.evaluate.ensures 0 zero)) ∙ c.if-not-holds.false)
    (sym c.is_empty.ensures ∙ c.if-not-is_empty.false) c.args.row.now _ _ c.make.ensures.makes r _ c.bitand.ensures
