use Rattle.std.proofs.Common.{sym, ◌∙◌, subst, rules}
use Rattle.model.specs.Formula.{all, none}
use Rattle.model.specs.Read.{bytes_of}
use Rattle.model.specs.FormulaBytes.{formula_bytes, encode_formula}
use Rattle.make.specs.Reads.{Reads}
use Rattle.make.specs.Views.{IsField}
use Rattle.make.proofs.FormulaSteps.{after-key, no-key}
use Rattle.make.proofs.formulas.FactNames.formula_after.Goals as goal

pub returns-then-eq : goal.returns-then-eq
returns-then-eq c =
    let step = after-key _ _ _ _ c.word-word.ensures.bytes _ c.word-word.ensures.after (sym c.eq.ensures ∙ c.if-eq.true) in
    subst (λ r. Reads r c.formula.result c.formula.new.text.bytes.now IsField) (sym step) c.formula.ensures

pub returns : goal.returns
unfolding encode_formula formula_bytes bytes_of
returns c = record {
  value = all none;
  read = no-key _ _ _ _ c.word-word.ensures.bytes (sym c.eq.ensures ∙ c.if-eq.false);
  is = search rules;
}
