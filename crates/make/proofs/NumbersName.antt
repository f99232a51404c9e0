-- The numbers of facts and actions are names. Assumes nothing.
use Rattle.std.proofs.Common.{◌≡◌, refl, true, [], ℕ, ◌≤◌, arith}
use Rattle.std.specs.Prelude.{decimal}
use Rattle.std.specs.Fmt.{digits}
use Rattle.std.proofs.lemmas.Fmt.{decimal_injective}
use Rattle.model.specs.Action.{every}
use Rattle.model.proofs.Laws.Conflicts.{every-at}
use Rattle.names.specs.Names.{is_name, Named}
use Rattle.make.specs.RoundTrip.{NumbersAreNames}

-- each number that a fact or an action may have is a name
all-names : every 64 (λ i. is_name (decimal i)) ≡ true
unfolding every digits
all-names = refl

-- and no two of them are the same
numbered : (n : ℕ) → n ≤ 64 → Named n []
numbered n most =
    record {
      sound = λ i l. every-at 64 (λ j. is_name (decimal j)) all-names i (omega arith);
      distinct = λ i j l m e. decimal_injective i j (omega arith) (omega arith) e;
    }

pub numbers-are-names : NumbersAreNames
numbers-are-names facts actions few some = record { facts = numbered facts few; actions = numbered actions some }
