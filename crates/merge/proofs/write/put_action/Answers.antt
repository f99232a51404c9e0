use Rattle.std.proofs.Common.{refl, sym, ap, ◌∷◌, map, ℕ, arith, length, length-append}
use Rattle.model.specs.ProblemBytes.{effects_bytes}
use Rattle.model.specs.Merging.{moved_effect}
use Rattle.numbers.proofs.Writing.{remains-whole, remains-none, remains-room, remains-more}
use Rattle.fields.specs.Actions.{effect, effects, action}
use Rattle.fields.specs.declared.actions.Effects.{Effects as View}
use Rattle.fields.proofs.FirstEffect.{length-effects}
use Rattle.merge.specs.Writing.{effect_bytes}
use Rattle.merge.proofs.Writing.{action-pieces, next-effect, no-effect}
use Rattle.merge.proofs.write.put_action.Goals as goal

pub put_formula-requires-clause-room : goal.put_formula-requires-clause-room
put_formula-requires-clause-room c = omega (arith, ap length (action-pieces c.args.shift _ (action c.args.action) refl), length-append {A = ℕ})

pub put-requires : goal.put-requires
put-requires c = omega (arith, ap length (action-pieces c.args.shift _ (action c.args.action) refl), length-append {A = ℕ})

pub loop-effect-init : goal.loop-effect-init
loop-effect-init c =
    let n = c.args.shift in
    let es = c.args.action.effects in
    let e = action-pieces n es.count (action c.args.action) (sym (length-effects es.count es.bytes.now)) in
    let same = ap (λ (x : View). es.count ∷ effects_bytes (map (moved_effect n) (effects x))) c.into_iter-effect-iterator.ensures.into_iter_gives in
    remains-more (remains-more (remains-whole c.requires.room) c.put_formula.ensures e) c.put.ensures (sym same)

pub put_effect-requires-clause-room : goal.put_effect-requires-clause-room
put_effect-requires-clause-room c =
    let e = effect c.in-Some.effect in
    remains-room c.loop-effect.invariant (effect_bytes (moved_effect c.args.shift e)) _ (next-effect c.args.shift _ e _ c.in-Some.ensures.steps)

pub loop-effect-preserved : goal.loop-effect-preserved
loop-effect-preserved c = remains-more c.loop-effect.invariant c.put_effect.ensures (next-effect c.args.shift _ (effect c.in-Some.effect) _ c.in-Some.ensures.steps)

pub returns : goal.returns
returns c = remains-none c.loop-effect.invariant (no-effect c.args.shift _ c.in-None.ensures.steps.0)
