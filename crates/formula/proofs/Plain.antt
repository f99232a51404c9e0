-- Formulas that are a literal or a group of literals alone, and all of their stated bytes. Assumes nothing.
use Rattle.std.proofs.Common.{◌≡◌, ◌∙◌, true, false, List, ℕ, zero, suc, ◌+◌, ◌<◌, ◌≤◌, arith, get_or, lt-ltb, le-leb, sub-one, None}
use Rattle.model.specs.Limits.{max_depth}
use Rattle.model.specs.Read.{got, require}
use Rattle.model.specs.FormulaBytes.{mark, is_literal, item}
use Rattle.model.specs.Marks.{group_of}
use Rattle.model.specs.declared.marks.Group.{Group}
use Rattle.formula.specs.Heads.{literal_at, AreLiterals}
use Rattle.formula.specs.Readings.{forgotten, stated_formula}
use Rattle.formula.proofs.Heads.{head-whole}
use Rattle.formula.proofs.Items.{row, row_ends, row_first, item-literal, item-group}
use Rattle.formula.proofs.Lengths.{after_read}

module _ (s : List ℕ) (end facts : ℕ) where
  literal-here : (p : ℕ) → p < end → is_literal facts (get_or s p 0) ≡ true → true ≡ literal_at s end facts p
  literal-here p h l = rw (lt-ltb p end h, l)

  pub literal-row : (left parent n p : ℕ) → p + n ≤ end → AreLiterals s (p + n) facts p → got tt (p + n) ≡ row s end facts left parent n p
  literal-row left parent zero p h k = let e : p + 0 ≡ p = omega arith in rw e (row_ends s end facts left parent 0 p (omega arith))
  literal-row left parent (suc n) p h k =
      let e : p + suc n ≡ p + 1 + n = omega arith in
      let one = item-literal s end facts left parent p (literal-here p (omega arith) (k p (omega arith) (omega arith))) in
      let rest = literal-row left parent n (p + 1) (omega arith) (λ i a b. k i (omega arith) (omega arith)) in
      rw e (rest ∙ rw (← one, sub-one) at (row_first s end facts left parent (suc n) p (omega arith)))

  module _ (p : ℕ) where
    read-whole : got tt end ≡ forgotten (item s end facts max_depth 0 p) → got tt end ≡ forgotten (stated_formula s end facts p)
    unfolding forgotten require
    read-whole e = rw (le-leb end end (omega arith)) at (after_read s end facts p end e)

    pub plain-literal : true ≡ literal_at s end facts p → p + 1 ≡ end → got tt end ≡ forgotten (stated_formula s end facts p)
    plain-literal l e = read-whole (rw e at (item-literal s end facts max_depth 0 p l))

    pub plain-group :
        literal_at s end facts p ≡ false → (g : Group) → get_or s p 0 ≡ mark (group_of g) → p + 2 + get_or s (p + 1) 0 ≡ end → AreLiterals s end facts (p + 2) →
        got tt end ≡ forgotten (stated_formula s end facts p)
    plain-group none g b e k =
        let h = head-whole s end facts max_depth None p (omega arith) none g b (λ n. cc) (omega arith) (omega arith) in
        let r = literal-row 7 (mark (group_of g)) (get_or s (p + 1) 0) (p + 2) (omega arith) (rw e k) in
        read-whole (rw e at r ∙ item-group s end facts max_depth 0 p _ h)
