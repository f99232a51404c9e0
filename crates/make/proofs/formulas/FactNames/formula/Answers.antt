use Rattle.std.proofs.Common.{◌≡◌, length, ap, arith}
use Rattle.model.specs.FormulaBytes.{formula_bytes, encode_formula}
use Rattle.make.proofs.Parsing.{wrong_at, returned, passed}
use Rattle.make.proofs.FormulaSteps.{formula-good, formula-long, formula-bad}
use Rattle.make.proofs.formulas.FactNames.formula.Goals as goal

pub returns-in_err-formula : goal.returns-in_err-formula
returns-in_err-formula c =
    rw (returned c.from_residual.result c.from_residual.ensures.1) (passed _ _ _ _ _ _ _ (formula-bad _ _) c.in_err-formula.ensures)

pub returns-then-len-gt-MAX_FORMULA_BYTES : goal.returns-then-len-gt-MAX_FORMULA_BYTES
returns-then-len-gt-MAX_FORMULA_BYTES c =
    let given = c.in_ok-formula.ensures in
    wrong_at _ _ _ _ _ _ _ (formula-long _ _ _ _ given.read (omega (arith, ap length given.is, c.in_ok-formula.formula.ok.0))) c.at.ensures c.word-place.ensures.left

pub returns : goal.returns
unfolding encode_formula
returns c =
    let given = c.in_ok-formula.ensures in
    let size : c.len-2.result ≡ length (formula_bytes given.value) = omega (arith, ap length given.is, c.in_ok-formula.formula.ok.0) in
    record {
      value = given.value;
      read = formula-good _ _ _ _ given.read (omega (arith, ap length given.is, c.in_ok-formula.formula.ok.0));
      is = cc (c.in_ok-extend_from_slice.ensures.items, c.in_ok-bytes.ensures.items, c.put_number.ensures, c.deref.ensures.value, given.is);
    }
