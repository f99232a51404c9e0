use Rattle.std.proofs.Common.{arith}
use Rattle.names.specs.Views.{names as names_of}
use Rattle.names.proofs.Pieces.{one-piece, all-written}
use Rattle.show.proofs.Lines.{first-fact, no-fact}
use Rattle.show.proofs.problem.push_facts.Goals as goal

pub loop-fact-preserved : goal.loop-fact-preserved
loop-fact-preserved c =
    let N = names_of c.args.names in
    one-piece _ _ _ _ _ _ c.loop-fact.invariant (first-fact N _ _ c.loop-fact-test.true) c.in_ok-writeln.ensures.bytes

pub returns : goal.returns
returns c =
    let N = names_of c.args.names in
    all-written _ _ _ c.loop-fact.invariant (no-fact N c.loop-fact.fact c.args.count (omega (arith, c.loop-fact-test.false)))
