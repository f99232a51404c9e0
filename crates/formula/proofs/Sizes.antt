-- How many formulas stand in formulas: a group has fewer in it than it begins. Assumes nothing.
use Rattle.std.proofs.Common.{◌≡◌, refl, ℕ, zero, suc, ◌+◌, ◌<◌, arith}
use Rattle.model.specs.Formula.{Formula, Formulas, lit, all, any, none, more}
use Rattle.model.specs.FormulaBytes.{Group, conjunction, disjunction, grouped}
use Rattle.formula.specs.Decoding.{first, after}

unfoldable mutual
  pub size : Formula → ℕ
  size (lit l) = 1
  size (all ms) = 1 + sizes ms
  size (any ms) = 1 + sizes ms

  pub sizes : Formulas → ℕ
  sizes none = 0
  sizes (more m ms) = size m + sizes ms

pub sizes-split : (k : ℕ) (ms : Formulas) → sizes (first k ms) + sizes (after k ms) ≡ sizes ms
unfolding sizes
sizes-split zero ms = omega arith
sizes-split (suc k) none = refl
sizes-split (suc k) (more m ms) = omega (arith, sizes-split k ms)

pub members-fewer : (g : Group) (n : ℕ) (ms fs : Formulas) → ms ≡ more (grouped g (first n fs)) (after n fs) → sizes fs < sizes ms
unfolding sizes
members-fewer conjunction n ms fs e = rw e (omega (arith, sizes-split n fs))
members-fewer disjunction n ms fs e = rw e (omega (arith, sizes-split n fs))
