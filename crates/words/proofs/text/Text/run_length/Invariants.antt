use Rattle.std.proofs.Common.{◌≡◌, ◌+◌, ◌≤◌, length}
use Rattle.words.specs.Words.{run_length}
use Rattle.words.proofs.text.Text.run_length.Given as goal

-- as many bytes as are gone, and then those before what ends the word
abbrev pub invariant-loop-byte : goal.invariant-loop-byte
invariant-loop-byte l = (run_length l.self.bytes.now + length l.rest ≡ length l.self.bytes.now + run_length l.rest) × (length l.rest ≤ length l.self.bytes.now)

abbrev pub decreases-loop-byte : goal.decreases-loop-byte
decreases-loop-byte l = length l.rest
