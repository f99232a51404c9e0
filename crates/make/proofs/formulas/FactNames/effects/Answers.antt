use Rattle.std.proofs.Common.{[], refl, sym, ap, ◌∙◌, option_map, arith, rules}
use Rattle.model.specs.ProblemBytes.{effects_bytes}
use Rattle.make.specs.Views.{made_by, fact_names}
use Rattle.make.proofs.Parsing.{wrong_at, returned}
use Rattle.make.proofs.EffectSteps.{effects-begin, effects-all, effects-full, effects-wrong, effects-next}
use Rattle.make.proofs.formulas.FactNames.effects.Goals as goal

pub loop-verb-init : goal.loop-verb-init
unfolding effects_bytes
loop-verb-init c = record {
  before = [];
  are = record { count = refl; bytes = search rules };
  few = omega arith;
  read = effects-begin _ _ _;
}

pub returns-in_default : goal.returns-in_default
returns-in_default c =
    let other = ap (option_map made_by) (sym c.in_default.is) ∙ c.of.ensures (fact_names c.args.self.now) in
    effects-all _ _ _ _ _ _ _ c.word-word.ensures.bytes c.loop-verb.invariant other

pub returns-then-effects-most : goal.returns-then-effects-most
returns-then-effects-most c =
    let begins = ap (option_map made_by) (sym c.in-Some.is) ∙ c.of.ensures (fact_names c.args.self.now) in
    wrong_at _ _ _ _ _ _ _ (effects-full _ _ _ _ _ _ _ c.word-word.ensures.bytes c.loop-verb.invariant _ begins c.if-effects-most.true) c.at.ensures c.word-word.ensures.left

pub returns-in_err-effect : goal.returns-in_err-effect
returns-in_err-effect c =
    let begins = ap (option_map made_by) (sym c.in-Some.is) ∙ c.of.ensures (fact_names c.args.self.now) in
    rw (returned c.from_residual.result c.from_residual.ensures.1) (effects-wrong _ _ _ _ _ _ _ c.word-word.ensures.bytes c.loop-verb.invariant _ begins c.if-effects-most.false _ _ _ _ _ c.in_err-effect.ensures)

pub loop-verb-preserved : goal.loop-verb-preserved
loop-verb-preserved c =
    let begins = ap (option_map made_by) (sym c.in-Some.is) ∙ c.of.ensures (fact_names c.args.self.now) in
    effects-next _ _ _ _ _ _ _ c.word-word.ensures.bytes c.loop-verb.invariant _ begins c.if-effects-most.false _ _ _ c.in_ok-effect.ensures refl (search rules)
