use Rattle.std.proofs.Common.{◌≡◌, length, false}
use Rattle.words.specs.Words.{past_blanks}
use Rattle.words.proofs.text.Text.from_word.Given as goal

-- what is left to pass over is the same as at first
abbrev pub invariant-loop-byte : goal.invariant-loop-byte
invariant-loop-byte l = past_blanks l.in_comment l.rest ≡ past_blanks false l.self.bytes.now

abbrev pub decreases-loop-byte : goal.decreases-loop-byte
decreases-loop-byte l = length l.rest
