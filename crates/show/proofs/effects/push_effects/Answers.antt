use Rattle.std.proofs.Common.{ap, ◌∙◌}
use Rattle.fields.specs.Actions.{effect as effect_of}
use Rattle.names.specs.Views.{names as names_of}
use Rattle.names.specs.ProblemText.{effects_text}
use Rattle.names.proofs.Pieces.{one-piece, all-written}
use Rattle.show.proofs.Lines.{first-effect, no-effect}
use Rattle.show.proofs.effects.push_effects.Goals as goal

pub loop-effect-preserved : goal.loop-effect-preserved
loop-effect-preserved c =
    let N = names_of c.args.names in
    one-piece _ _ _ _ _ _ c.loop-effect.invariant (ap (effects_text N) c.in-Some.ensures.steps ∙ first-effect N (effect_of c.in-Some.effect) _)
    c.in_ok-push_effect.ensures

pub returns : goal.returns
returns c =
    let N = names_of c.args.names in
    all-written _ _ _ c.loop-effect.invariant (ap (effects_text N) c.in-None.ensures.steps.0 ∙ no-effect N)
