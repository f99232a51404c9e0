use Rattle.std.proofs.Common.{rules, arith, refl}
use Rattle.fields.specs.ActionBytes.{effects_of}
use Rattle.formula.proofs.Decoding.{part}
use Rattle.formula.proofs.Leaves.{literal-byte}
use Rattle.fields.proofs.FirstEffect.{effect-first, length-effects}
use Rattle.fields.proofs.actions.EffectsIterator.next.Goals as goal

pub returns-then-self-eq0-clause-steps : goal.returns-then-self-eq0-clause-steps
unfolding effects_of
returns-then-self-eq0-clause-steps c = rw c.if-self-eq0.true (refl, refl)

pub bounds-self-0 : goal.bounds-self-0
bounds-self-0 c = (effect-first _ _ _ c.args.self.now.sound (omega arith)).some

pub of-literal-requires : goal.of-literal-requires
of-literal-requires c =
    let es = c.args.self.now in
    literal-byte es.facts es.few_facts _ (effect-first _ _ _ es.sound (omega arith)).declared

pub slice_bounds-of-count : goal.slice_bounds-of-count
slice_bounds-of-count c = (effect-first _ _ _ c.args.self.now.sound (omega arith)).some

pub slice_bounds-of-start : goal.slice_bounds-of-start
slice_bounds-of-start c = (effect-first _ _ _ c.args.self.now.sound (omega arith)).some

pub of-cut-requires : goal.of-cut-requires
of-cut-requires c = rw part (effect-first _ _ _ c.args.self.now.sound (omega arith)).stated

pub invariant_of-self : goal.invariant_of-self
invariant_of-self c =
    record {
      few = omega (arith, c.args.self.now.few);
      few_facts = c.args.self.now.few_facts;
      sound = rw (c.of-cut.ensures.rest, part) (effect-first _ _ _ c.args.self.now.sound (omega arith)).sound;
    }

pub invariant_of-result : goal.invariant_of-result
invariant_of-result c = record { few_facts = c.args.self.now.few_facts; declared = rw c.of-literal.ensures (effect-first _ _ _ c.args.self.now.sound (omega arith)).declared }

pub returns-clause-steps : goal.returns-clause-steps
returns-clause-steps c =
    rw (c.of-literal.ensures, c.of-cut.ensures.rest, c.of-cut.ensures.formula, part) (effect-first _ _ _ c.args.self.now.sound (omega arith)).is

pub returns-clause-goes : goal.returns-clause-goes
returns-clause-goes c = search (rules, length-effects)
