use Rattle.std.proofs.Common.{rules, ◌≡◌, ◌∷◌, ap, arith, length}
use Rattle.texts.specs.Texts.{line_feeds}
use Rattle.texts.proofs.Feeds.{feeds-none, feed-passed, byte-passed}
use Rattle.texts.proofs.place.line_feeds.Goals as goal

pub loop-byte-preserved-then-byte-eq10 : goal.loop-byte-preserved-then-byte-eq10
loop-byte-preserved-then-byte-eq10 c =
    let e : c.loop-byte.rest.now ≡ c.in-Some.byte.now ∷ c.in-Some.after.now = search rules in (
      feed-passed c.loop-byte.feeds (line_feeds c.args.text.now) c.in-Some.byte.now c.loop-byte.rest.now c.in-Some.after.now e (search rules) c.loop-byte.invariant.0,
      omega (arith, ap length e, c.loop-byte.invariant.1),
    )

pub loop-byte-preserved : goal.loop-byte-preserved
loop-byte-preserved c =
    let e : c.loop-byte.rest.now ≡ c.in-Some.byte.now ∷ c.in-Some.after.now = search rules in (
      byte-passed c.loop-byte.feeds (line_feeds c.args.text.now) c.in-Some.byte.now c.loop-byte.rest.now c.in-Some.after.now e (search rules) c.loop-byte.invariant.0,
      omega (arith, ap length e, c.loop-byte.invariant.1),
    )

pub returns-clause-count : goal.returns-clause-count
returns-clause-count c =
    let none : line_feeds c.loop-byte.rest.now ≡ 0 = search (rules, feeds-none c.loop-byte.rest.now) in
    omega (arith, none, c.loop-byte.invariant.0)
