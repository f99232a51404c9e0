use Rattle.std.proofs.Common.{arith}
use Rattle.names.specs.Views.{names as names_of}
use Rattle.names.proofs.Pieces.{one-piece, all-written}
use Rattle.show.proofs.Lines.{first-step, no-step}
use Rattle.show.proofs.plan.push_steps.Goals as goal

pub loop-step-preserved : goal.loop-step-preserved
loop-step-preserved c =
    let N = names_of c.args.names in
    one-piece _ _ _ _ _ _ c.loop-step.invariant (first-step N _ _ c.loop-step-test.true) c.in_ok-writeln.ensures.bytes

pub returns : goal.returns
returns c =
    let N = names_of c.args.names in
    all-written _ _ _ c.loop-step.invariant (no-step N c.args.steps.now c.loop-step.step-index (omega (arith, c.loop-step-test.false)))
