-- The numbers of a version, by the version. Assumes nothing.
use Rattle.std.proofs.Common.{◌≡◌, Bool, true, false, cond, inl, inr, List, ℕ}
use Rattle.model.specs.declared.Limits.{Limits}
use Rattle.model.specs.Limits.{version1, version2, limits_of}
use Rattle.follow.specs.Follows.{OfAVersion}

either : (b : Bool) (F : Limits) → F ≡ cond b version2 version1 → OfAVersion F
either true F e = inr e
either false F e = inl e

-- a problem's are
pub of-a-version : (problem : List ℕ) (F : Limits) → F ≡ limits_of problem → OfAVersion F
of-a-version problem F e = either _ F e
