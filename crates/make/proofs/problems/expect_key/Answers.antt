use Rattle.std.proofs.Common.{refl}
use Rattle.make.proofs.Parsing.{wrong_at, unequal}
use Rattle.make.proofs.NameSteps.{key-good, key-bad}
use Rattle.make.proofs.problems.expect_key.Goals as goal

pub returns-then-ne : goal.returns-then-ne
returns-then-ne c =
    wrong_at _ _ _ _ _ _ _ (key-bad _ _ _ _ c.next_word-word.ensures.bytes (unequal c.next_word-word.result.bytes.now c.args.key.now c.args.key.now _ _ c.ne.ensures c.if-ne.true refl)) c.at.ensures c.next_word-word.ensures.left

pub returns : goal.returns
returns c = record {
  value = tt;
  read = key-good _ _ _ _ c.next_word-word.ensures.bytes _ c.next_word-word.ensures.after (unequal c.next_word-word.result.bytes.now c.args.key.now c.args.key.now _ _ c.ne.ensures c.if-ne.false refl);
  is = tt;
}
