-- What the value of a formula in a case says of the states in the case: Kleene soundness and exactness. The width of a state's number and the
-- fact count are parameters.
use Rattle.std.specs.Prelude.{◌≡◌, true, false, ℕ, ◌≤◌, ◌<◌}
use Rattle.model.specs.Kleene.{No, Yes, known, two, three}
use Rattle.model.specs.Formula.{Formula, eval}
use Rattle.model.specs.Case.{bit, state_of, case_of}

module _ (w n : ℕ) where
  -- the state numbered s is in the case (k, v): the facts that the case fixes have its values
  abbrev pub InCase : ℕ → ℕ → ℕ → Type 0
  InCase k v s = (f : ℕ) → f < k → bit w s f ≡ bit w v f

  -- sound readings: what a formula reads in a case is so in each of its states
  pub record KleeneSound : Type 0 where
    -- a formula that reads yes in a case is true in every state of the case
    pub yes_is_true :
        (k v s : ℕ) → k ≤ n → InCase k v s → (φ : Formula) → eval three (case_of w n k v) φ ≡ Yes → eval two (state_of w n s) φ ≡ true
    -- and one that reads no is false in every state of it
    pub no_is_false :
        (k v s : ℕ) → k ≤ n → InCase k v s → (φ : Formula) → eval three (case_of w n k v) φ ≡ No → eval two (state_of w n s) φ ≡ false
    -- a case that fixes every fact has one state, and there each formula reads as it is in this state: none is unknown
    pub exact : (s : ℕ) (φ : Formula) → eval three (case_of w n n s) φ ≡ known (eval two (state_of w n s) φ)
