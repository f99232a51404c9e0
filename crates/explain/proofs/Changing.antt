-- The changes of the facts that are left. Assumes nothing.
use Rattle.std.proofs.Common.{◌≡◌, refl, ap, Bool, false, List, [], ◌++◌, ℕ, suc, ◌+◌, ◌-◌, ◌≤◌, ◌<◌, get_or, arith}
use Rattle.names.specs.Names.{Names}
use Rattle.explain.specs.Told.{change_text, changes_text}

module _ (N : Names) (c d : List Bool) where
  pub changes-next :
      (f n : ℕ) → f < n →
      changes_text N c d f (n - f) ≡ change_text N (get_or c f false) (get_or d f false) f ++ changes_text N c d (f + 1) (n - (f + 1))
  unfolding changes_text
  changes-next f n l =
      let z : n - f ≡ suc (n - (f + 1)) = omega arith in
      rw z (ap (λ (g : ℕ). change_text N (get_or c f false) (get_or d f false) f ++ changes_text N c d g (n - (f + 1))) one)
    where
      one : suc f ≡ f + 1
      one = omega arith

  pub changes-end : (f n : ℕ) → n ≤ f → changes_text N c d f (n - f) ≡ []
  unfolding changes_text
  changes-end f n h = let z : n - f ≡ 0 = omega arith in rw z refl
