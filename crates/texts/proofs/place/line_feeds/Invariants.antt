-- the line feeds that were passed, and those of the rest, are those of the text
use Rattle.std.proofs.Common.{◌≡◌, ◌+◌, ◌≤◌, length}
use Rattle.texts.specs.Texts.{line_feeds}
use Rattle.texts.proofs.place.line_feeds.Given as goal

abbrev pub invariant-loop-byte : goal.invariant-loop-byte
invariant-loop-byte l = (l.feeds + line_feeds l.rest ≡ line_feeds l.text) × (l.feeds + length l.rest ≤ length l.text)

abbrev pub decreases-loop-byte : goal.decreases-loop-byte
decreases-loop-byte l = length l.rest
