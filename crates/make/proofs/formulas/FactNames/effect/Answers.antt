use Rattle.std.proofs.Common.{sym, ◌∙◌, arith}
use Rattle.make.specs.Views.{fact_names, made_by}
use Rattle.make.proofs.Parsing.{wrong_at, returned, gives, fails}
use Rattle.make.proofs.EffectSteps.{literal_byte-small, effect-unknown, effect-order, effect-then}
use Rattle.make.proofs.formulas.FactNames.effect.Goals as goal

pub returns-in_default : goal.returns-in_default
returns-in_default c =
    wrong_at _ _ _ _ _ _ _ (effect-unknown _ (made_by c.args.verb) c.args.least _ _ _ c.next_word.ensures.after c.next_word-word.ensures.bytes (sym c.fact.ensures.value ∙ c.in_default.is)) c.at.ensures c.next_word-word.ensures.left

pub returns-then-literal-least : goal.returns-then-literal-least
returns-then-literal-least c =
    let known = sym c.fact.ensures.value ∙ c.in-Some.is in
    wrong_at _ _ _ _ _ _ _ (effect-order _ (made_by c.args.verb) c.args.least _ _ _ c.next_word.ensures.after c.next_word-word.ensures.bytes _ known (omega (arith, c.literal-literal.ensures))) c.at-then-literal-least.ensures c.next_word-word.ensures.left

pub returns-in_err-condition : goal.returns-in_err-condition
returns-in_err-condition c =
    let known = sym c.fact.ensures.value ∙ c.in-Some.is in
    let step = effect-then (fact_names c.args.self.now) (made_by c.args.verb) c.args.least _ _ _ c.next_word.ensures.after c.next_word-word.ensures.bytes _ known _ _ c.next_word-word.ensures.after c.as_slice.ensures (omega (arith, c.literal-literal.ensures)) in
    rw (returned c.from_residual.result c.from_residual.ensures.1) (fails _ _ _ _ _ _ step _ _ c.in_err-condition.ensures)

pub returns : goal.returns
returns c =
    let known = sym c.fact.ensures.value ∙ c.in-Some.is in
    let step = effect-then (fact_names c.args.self.now) (made_by c.args.verb) c.args.least _ _ _ c.next_word.ensures.after c.next_word-word.ensures.bytes _ known _ _ c.next_word-word.ensures.after c.as_slice.ensures (omega (arith, c.literal-literal.ensures)) in
    let small = literal_byte-small c.args.verb _ c.in-Some.ensures.small in
    gives _ _ _ _ _ _ step _ _ c.in_ok-condition.ensures (λ f is. record { literal = c.literal-literal.ensures; small = omega (arith, small, c.literal-literal.ensures); condition = is })
