use Rattle.std.proofs.Common.{rules}
use Rattle.words.specs.Words.{past_blanks}
use Rattle.words.proofs.Reading.{blanks_none}
use Rattle.words.proofs.text.Text.from_word.Goals as goal
use Rattle.words.proofs.text.Text.from_word.Goals.{in-Some+else-in_comment+else-byte-eq35+then-not-is_blank, in_default}

pub loop-byte-preserved-then-in_comment : goal.loop-byte-preserved-then-in_comment
unfolding past_blanks
loop-byte-preserved-then-in_comment c = search rules

pub loop-byte-preserved-then-byte-eq35 : goal.loop-byte-preserved-then-byte-eq35
unfolding past_blanks
loop-byte-preserved-then-byte-eq35 c = search rules

pub loop-byte-preserved : goal.loop-byte-preserved
unfolding past_blanks
loop-byte-preserved c = search rules

pub returns : goal.returns
unfolding past_blanks
returns c =
    elim c.match-split_first.branch [
      | in-Some+else-in_comment+else-byte-eq35+then-not-is_blank w ↦ search rules
      | in_default w ↦ search (rules, blanks_none c.loop-byte.in_comment c.loop-byte.rest.now)
    ]
