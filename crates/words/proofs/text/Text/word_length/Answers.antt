use Rattle.std.proofs.Common.{rules}
use Rattle.words.specs.Words.{word_length, run_length}
use Rattle.words.proofs.text.Text.word_length.Goals as goal

pub returns-in-Some : goal.returns-in-Some
unfolding word_length
returns-in-Some c = search rules

pub returns-in_default : goal.returns-in_default
unfolding word_length run_length
returns-in_default c = search rules
