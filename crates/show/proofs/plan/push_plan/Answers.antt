use Rattle.names.specs.Views.{names as names_of}
use Rattle.names.proofs.Pieces.{all-left, next-piece, last-piece}
use Rattle.show.proofs.Lines.{plan-pieces}
use Rattle.show.proofs.plan.push_plan.Goals as goal

pub returns : goal.returns
returns c =
    let begun = all-left _ _ _ (plan-pieces (names_of c.args.names) c.args.steps.now) in
    let headed = next-piece _ _ _ _ _ begun c.in_ok-push_str.ensures.bytes in
    last-piece c.push_steps.result _ _ _ _ headed c.push_steps.ensures
