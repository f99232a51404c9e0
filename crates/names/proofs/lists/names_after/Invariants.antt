-- The names that were found are those before what is left.
use Rattle.std.proofs.Common.{◌≡◌, true, ◌++◌, length}
use Rattle.names.specs.Lists.{texts, words_after, are_names}
use Rattle.names.proofs.lists.names_after.Given as goal

abbrev pub invariant-loop-key : goal.invariant-loop-key
invariant-loop-key l =
    (texts l.names.items ++ words_after l.key l.left.bytes.now ≡ words_after l.key l.text) × (are_names (texts l.names.items) ≡ true)

abbrev pub decreases-loop-key : goal.decreases-loop-key
decreases-loop-key l = length l.left.bytes.now
