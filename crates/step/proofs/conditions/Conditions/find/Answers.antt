use Rattle.std.proofs.Common.{arith, refl, ap, sym, length}
use Rattle.fields.specs.{Actions.effects, declared.actions.Effects.Effects as View}
use Rattle.fields.proofs.FirstEffect.{effects-rise, length-effects}
use Rattle.step.proofs.Holding.{next-declared, next-rises, next-below}
use Rattle.step.proofs.Conflicts.{passed-none}
use Rattle.step.proofs.Finding.{some-left, all-left-out, searching-ends, turn-ends, turn-sets, turn-set, turn-clears, turn-pair, turn-stops}
use Rattle.step.proofs.conditions.Conditions.find.Goals.{then-is_denial+then-i-self+then-self-i-2+else-lanes-eq0, then-is_denial+else-i-self, else-is_denial, then-loop-i-test+else-self-i, else-loop-i-test, else-i-self-via-then-i-self+else-self-i-2, else-i-self-via-else-i-self}
use Rattle.step.proofs.conditions.Conditions.find.Goals as goal

pub loop-effect-init : goal.loop-effect-init
loop-effect-init c =
    let es = c.args.action.effects in
    let ok = effects-rise es.facts es.few_facts 0 es.count es.bytes.now es.sound in
    let all = ap (λ (x : View). effects x) c.into_iter-effect-iterator.ensures.into_iter_gives in
    record {
      held = record { ok = ok; same = refl; left = omega (arith, ap length all); are = sym all; each = λ i h. absurd (omega arith) };
      passed = passed-none _ _ _ _;
      some = λ any e. omega arith;
    }

pub push-requires-clause-room : goal.push-requires-clause-room
push-requires-clause-room c =
    let es = c.args.action.effects in
    omega (arith, next-below _ _ _ _ _ c.loop-effect.invariant.held c.in-Some.effect _ c.in-Some.ensures.steps, length-effects es.count es.bytes.now)

pub push-requires-clause-declared : goal.push-requires-clause-declared
push-requires-clause-declared c = next-declared _ _ _ _ _ c.loop-effect.invariant.held c.in-Some.effect _ c.in-Some.ensures.steps

pub push-requires-clause-rises : goal.push-requires-clause-rises
push-requires-clause-rises c = next-rises _ _ _ _ _ c.loop-effect.invariant.held c.in-Some.effect _ c.in-Some.ensures.steps

pub loop-i-preserved : goal.loop-i-preserved
loop-i-preserved c =
    let few = c.args.action.effects.few_facts in
    let S = c.loop-effect.invariant in
    turn-set _ c.args.cases.now _ _ few _ _ S.held c.in-Some.effect _ c.in-Some.ensures.steps c.evaluate-value.result c.evaluate-value.ensures _ _ c.loop-i.invariant S.some
    c.if-is_denial.ensures _ c.fact-fact.ensures.is c.loop-i-test.true c.if-self-i.true

pub returns-then-lanes-eq0-clause-finds : goal.returns-then-lanes-eq0-clause-finds
returns-then-lanes-eq0-clause-finds c =
    let few = c.args.action.effects.few_facts in
    let S = c.loop-effect.invariant in
    turn-stops _ c.args.cases.now _ _ few _ _ S.held c.in-Some.effect _ c.in-Some.ensures.steps c.evaluate-value.result c.evaluate-value.ensures _ _ c.loop-i.invariant S.some c.if-is_denial.ensures _
    c.fact-fact.ensures.is c.if-i-self.true c.if-self-i-2.true c.condition.result c.bitand.result c.not-exclusive.result c.condition.ensures c.bitand.ensures c.not-exclusive.ensures c.if-lanes-eq0.true

pub returns-then-lanes-eq0-clause-some : goal.returns-then-lanes-eq0-clause-some
returns-then-lanes-eq0-clause-some c = λ same any. all-left-out _ c.args.cases.now _ _ _ (returns-then-lanes-eq0-clause-finds c) same

pub loop-effect-preserved : goal.loop-effect-preserved
loop-effect-preserved c =
    let few = c.args.action.effects.few_facts in
    let S = c.loop-effect.invariant in
    let r = c.in-Some.effect in
    let x = c.in-Some.ensures.steps in
    let v = c.evaluate-value.result in
    let y = c.evaluate-value.ensures in
    turn-ends _ c.args.cases.now _ _ few _ _ S.held r _ x v y _ c.push.ensures _ _
    (elim c.if-is_denial.branch [
      | then-is_denial+then-i-self+then-self-i-2+else-lanes-eq0 w ↦
          rw (w.lanes-is, w.i-is)
          (turn-pair _ c.args.cases.now _ _ few _ _ S.held r _ x v y _ _ w.loop-i.invariant S.some w.if-is_denial.ensures _ w.fact-fact.ensures.is w.if-i-self.true w.if-self-i-2.true
          w.condition.result w.bitand.result w.not-exclusive.result w.condition.ensures w.bitand.ensures w.not-exclusive.ensures w.if-lanes-eq0.false)
      | then-is_denial+else-i-self w ↦
          rw (w.lanes-is, w.i-is)
          (turn-clears _ c.args.cases.now _ _ few _ _ S.held r _ x v y _ _ w.loop-i.invariant S.some w.if-is_denial.ensures _ w.fact-fact.ensures.is
          (λ l m. elim w.loop-i-test.branch [ then-loop-i-test+else-self-i u ↦ omega arith | else-loop-i-test u ↦ omega arith ])
          (λ l m. elim w.else-i-self.branch [ else-i-self-via-then-i-self+else-self-i-2 u ↦ omega arith | else-i-self-via-else-i-self u ↦ omega arith ]))
      | else-is_denial w ↦ rw (w.lanes-is, w.i-is) (turn-sets _ c.args.cases.now _ _ few _ _ S.held r _ x v y _ _ S.passed S.some w.if-is_denial.ensures)
    ])

pub returns-clause-finds : goal.returns-clause-finds
returns-clause-finds c = searching-ends _ _ _ _ _ _ _ _ c.loop-effect.invariant c.in-None.ensures.steps.0

pub returns-clause-some : goal.returns-clause-some
returns-clause-some c = some-left _ c.args.cases.now _ _ _ _ (returns-clause-finds c)
