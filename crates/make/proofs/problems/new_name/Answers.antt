use Rattle.std.proofs.Common.{refl, sym, ap, ◌∙◌, is_some}
use Rattle.make.specs.Views.{texts}
use Rattle.make.proofs.Parsing.{wrong_at}
use Rattle.make.proofs.NameSteps.{name-bad, name-taken, name-good}
use Rattle.make.proofs.problems.new_name.Goals as goal

pub returns-then-not-is_name : goal.returns-then-not-is_name
returns-then-not-is_name c =
    wrong_at _ _ _ _ _ _ _ (name-bad (texts c.args.taken.now) _ _ c.next_word-word.ensures.bytes (sym c.is_name.ensures ∙ c.if-not-is_name.true)) c.at.ensures c.next_word-word.ensures.left

pub returns-then-is_some : goal.returns-then-is_some
returns-then-is_some c =
    let others = ap is_some (sym c.index_of.ensures.value) ∙ (sym c.is_some.ensures ∙ c.if-is_some.true) in
    wrong_at _ _ _ _ _ _ _ (name-taken (texts c.args.taken.now) _ _ c.next_word-word.ensures.bytes (sym c.is_name.ensures ∙ c.if-not-is_name.false) others) c.at-then-is_some.ensures c.next_word-word.ensures.left

pub returns : goal.returns
returns c =
    let others = ap is_some (sym c.index_of.ensures.value) ∙ (sym c.is_some.ensures ∙ c.if-is_some.false) in
    record {
      value = c.next_word-word.result.bytes.now;
      read = name-good (texts c.args.taken.now) _ _ c.next_word-word.ensures.bytes (sym c.is_name.ensures ∙ c.if-not-is_name.false) _ c.next_word-word.ensures.after others;
      is = refl;
    }
