-- Truth values. Assumes nothing.
use Rattle.model.proofs.Words.{◌≡◌, refl, sym, Bool, true, false}
-- both
pub use Rattle.std.proofs.lemmas.Bool.{and_parts as and-true, and_from as and_both}
pub use Rattle.std.proofs.Math.Bool.{and_assoc, and-true as and_one, and-false as and_none}
-- one of two
pub use Rattle.std.proofs.lemmas.Bool.{or_left as or-first, or_right as or-second, or_cases, or_parts as or-false}
pub use Rattle.std.proofs.Math.Bool.{or_assoc, or-false as or-none}

pub same_truth : (a b : Bool) → (a ≡ true → b ≡ true) → (b ≡ true → a ≡ true) → a ≡ b
same_truth true b h k = sym (h refl)
same_truth false true h k = k refl
same_truth false false h k = refl
