use Rattle.std.proofs.Common.{sym, ◌∙◌, rules}
use Rattle.model.specs.Formula.{lit}
use Rattle.model.specs.FormulaBytes.{literal_byte, formula_bytes}
use Rattle.make.specs.FormulaText.{literal_named}
use Rattle.make.specs.Views.{fact_names}
use Rattle.make.proofs.Parsing.{some_of, none_of, wrong_at}
use Rattle.make.proofs.FormulaSteps.{leaf-good, leaf-bad}
use Rattle.make.proofs.formulas.FactNames.leaf.Goals as goal

pub returns-in_default : goal.returns-in_default
returns-in_default c =
    let named = none_of literal_byte (literal_named (fact_names c.args.self.now) c.next_word-word.result.bytes.now) (sym c.literal.ensures ∙ c.in_default.is) in
    wrong_at _ _ _ _ _ _ _ (leaf-bad _ _ _ c.next_word-word.ensures.bytes named) c.at.ensures c.next_word-word.ensures.left

pub returns : goal.returns
unfolding formula_bytes
returns c =
    let named = some_of literal_byte (literal_named (fact_names c.args.self.now) c.next_word-word.result.bytes.now) _ (sym c.literal.ensures ∙ c.in-Some.is) in
    record {
      value = lit named.0;
      read = leaf-good _ _ _ _ _ c.next_word-word.ensures.bytes c.next_word-word.ensures.after named.1;
      is = search rules;
    }
