-- The members that are left of a group, and the text of those that are false. Assumes nothing.
use Rattle.std.proofs.Common.{◌≡◌, ap, Bool, cond, [], ◌++◌, ℕ, suc, ◌+◌, ◌-◌, ◌≤◌, ◌<◌, arith}
use Rattle.model.specs.Formula.{Formula, Formulas, none, more}
use Rattle.model.specs.FormulaBytes.{member_count}
use Rattle.formula.specs.Decoding.{first, after, head}
use Rattle.names.specs.Names.{Names}
use Rattle.explain.specs.Told.{formula_line, false_members}

first-more : (ms : Formulas) → 0 < member_count ms → ms ≡ more (head ms) (after 1 ms)
first-more ms l = grind arith

module _ (n i : ℕ) (rest : Formulas) (enough : n - i ≤ member_count rest) (h : i < n) where
  pub some-left : 0 < member_count rest
  some-left = omega (arith, enough)

  first-left : first (n - i) rest ≡ more (head rest) (first (n - (i + 1)) (after 1 rest))
  first-left =
      let z : n - i ≡ suc (n - (i + 1)) = omega arith in
      rw z (ap (first (suc (n - (i + 1)))) (first-more rest some-left))

  pub enough-left : n - (i + 1) ≤ member_count (after 1 rest)
  enough-left = omega (arith, enough, ap member_count (first-more rest some-left))

module _ (N : Names) (holds : Formula → Bool) where
  pub members-next :
      (n i : ℕ) (rest : Formulas) → n - i ≤ member_count rest → i < n →
      false_members N holds (first (n - i) rest) ≡ cond (holds (head rest)) [] (formula_line N (head rest)) ++ false_members N holds (first (n - (i + 1)) (after 1 rest))
  unfolding false_members
  members-next n i rest enough h = ap (false_members N holds) (first-left n i rest enough h)

-- ---- of a formula, which is one alone in ms

pub alone : {f g : Formula} {ms rest : Formulas} → ms ≡ more f none → ms ≡ more g rest → f ≡ g
alone e h = cc
