use Rattle.fields.specs.Actions.{effect as effect_of}
use Rattle.names.specs.Views.{names as names_of}
use Rattle.names.proofs.Pieces.{all-left, next-piece, last-text}
use Rattle.show.proofs.Lines.{effect-pieces}
use Rattle.show.proofs.effects.push_effect.Goals as goal

pub returns : goal.returns
returns c =
    let begun = all-left _ _ _ (effect-pieces (names_of c.args.names) (effect_of c.args.effect)) in
    let changed = next-piece _ _ _ _ _ begun c.in_ok-write.ensures.bytes in
    let conditioned = next-piece _ _ _ _ _ changed c.in_ok-push_condition.ensures in
    last-text c.push_str.result _ _ _ _ conditioned c.push_str.ensures.bytes
