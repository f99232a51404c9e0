use Rattle.std.proofs.Common.{◌≡◌, arith, rules}
use Rattle.words.specs.Words.{run_length}
use Rattle.words.proofs.Reading.{run_none}
use Rattle.words.proofs.text.Text.run_length.Goals as goal
use Rattle.words.proofs.text.Text.run_length.Goals.{in-Some+then-ends_word, in_default}

pub loop-byte-preserved : goal.loop-byte-preserved
unfolding run_length
loop-byte-preserved c = search rules

pub returns : goal.returns
unfolding run_length
returns c =
    let none : run_length c.loop-byte.rest.now ≡ 0 =
    elim c.match-split_first.branch [
      | in-Some+then-ends_word w ↦ search rules
      | in_default w ↦ search (rules, run_none c.loop-byte.rest.now)
    ]
    in
    omega (arith, none, c.loop-byte.invariant.0)
