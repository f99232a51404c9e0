use Rattle.fields.specs.Actions.{action as action_of}
use Rattle.names.specs.Views.{names as names_of}
use Rattle.names.proofs.Pieces.{all-left, next-piece, last-piece}
use Rattle.show.proofs.Lines.{action-pieces}
use Rattle.show.proofs.actions.push_action.Goals as goal

pub returns : goal.returns
returns c =
    let name = c.args.name in
    let begun = all-left _ _ _ (action-pieces (names_of name.names) name.action (action_of c.args.action)) in
    let named = next-piece _ _ _ _ _ begun c.in_ok-writeln.ensures.bytes in
    let asked = next-piece _ _ _ _ _ named c.in_ok-push_need.ensures in
    last-piece c.push_effects.result _ _ _ _ asked c.push_effects.ensures
