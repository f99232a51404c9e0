use Rattle.std.proofs.Common.{rules}
use Rattle.words.specs.Words.{word, after_word}
use Rattle.words.proofs.Reading.{word_within}
use Rattle.words.proofs.text.Text.word.Goals as goal

pub split_at-requires : goal.split_at-requires
split_at-requires c = search (rules, word_within c.from_word-from.result.bytes.now)

pub returns-clause-bytes : goal.returns-clause-bytes
unfolding word
returns-clause-bytes c = search rules

pub returns-clause-after : goal.returns-clause-after
unfolding after_word
returns-clause-after c = search rules
