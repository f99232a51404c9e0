use Rattle.std.proofs.Common.{arith}
use Rattle.names.specs.Views.{names as names_of}
use Rattle.names.proofs.Pieces.{one-piece, all-written}
use Rattle.reply.proofs.Stating.{next-state, no-state, rows-fit}
use Rattle.reply.proofs.state_lines.push_states.Goals as goal

pub loop-number-preserved : goal.loop-number-preserved
loop-number-preserved c =
    let l = c.loop-number in
    let n = c.args.facts.count in
    let more = next-state (names_of c.args.names) c.args.facts.limits n l.number-counter c.args.count l.left.now c.split_at.result.0.now c.split_at.result.1.now c.state_number.result
    c.loop-number-test.true c.split_at.ensures.front c.split_at.ensures.back c.state_number.ensures.number
    in (
      one-piece _ _ _ _ _ _ l.invariant.0 more c.in_ok-writeln.ensures.bytes,
      omega (arith, rows-fit n l.number-counter c.args.count _ c.loop-number-test.true l.invariant.1, c.split_at.ensures.back_len),
    )

pub returns : goal.returns
returns c =
    let l = c.loop-number in
    all-written _ _ _ l.invariant.0 (no-state (names_of c.args.names) c.args.facts.limits c.args.facts.count l.number-counter c.args.count l.left.now (omega (arith, c.loop-number-test.false)))
