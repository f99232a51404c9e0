-- Actions: when one is applicable, and what becomes of each fact.
use Rattle.std.specs.Prelude.{◌≡◌, Bool, true, false, cond, ◌&&◌, List, [], ◌∷◌, ℕ, zero, suc, ◌<◌, get_or, eqb}
use Rattle.model.specs.Kleene.{Logic}
use Rattle.model.specs.Formula.{Literal, fact, denial, Formula, any, none, eval}

-- an effect: where its condition is true, its literal becomes true
pub record Effect : Type 0 where
  pub literal : Literal
  pub condition : Formula

-- actions: what it asks for, and what it does
pub record Action : Type 0 where
  pub precondition : Formula
  pub effects : List Effect

abbrev pub same_literal : Literal → Literal → Bool
same_literal (fact f) (fact g) = eqb f g
same_literal (fact f) (denial g) = false
same_literal (denial f) (fact g) = false
same_literal (denial f) (denial g) = eqb f g

-- the condition that a literal's entry gives it, or `found` where it has none. Literals rise strictly, so there is one entry at
-- most; the last one decides, as in a loop that stores each entry's condition.
unfoldable pub condition_in : Formula → Literal → List Effect → Formula
condition_in found l [] = found
condition_in found l (e ∷ es) = condition_in (cond (same_literal l e.literal) e.condition found) l es

-- the condition of a literal; where it has no entry, one that is never true
abbrev pub condition_of : Literal → List Effect → Formula
condition_of l es = condition_in (any none) l es

-- f 0, f 1, .. f (n - 1)
abbrev pub tabulate : {X : Type 0} → ℕ → (ℕ → X) → List X
tabulate zero f = []
tabulate (suc n) f = f zero ∷ tabulate n (λ i. f (suc i))

-- whether f 0, f 1, .. f (n - 1) are all true
unfoldable pub every : ℕ → (ℕ → Bool) → Bool
every zero f = true
every (suc n) f = f zero && every n (λ i. f (suc i))

module _ {X : Type 0} (L : Logic X) where
  -- conditions: a fact's two conditions, in the values c
  abbrev pub sets : Action → List X → ℕ → X
  sets a c f = eval L c (condition_of (fact f) a.effects)

  abbrev pub clears : Action → List X → ℕ → X
  clears a c f = eval L c (condition_of (denial f) a.effects)

  -- conflict: whether it is certain that fact f is not set and cleared at once
  unfoldable pub exclusive : Action → List X → ℕ → Bool
  exclusive a c f = L.holds (L.denied (L.both (sets a c f) (clears a c f)))

  -- applicable: an action can be taken where its precondition is true and none of the n facts has both its conditions true
  unfoldable pub applicable : ℕ → Action → List X → Bool
  applicable n a c = L.holds (eval L c a.precondition) && every n (exclusive a c)

  -- effect rule: what a fact is after the action: true where it is set, and where it was true and is not cleared. Both conditions are evaluated
  -- before anything changes. With three values it is the same formula.
  unfoldable pub next : Action → List X → ℕ → X
  next a c f = L.either (sets a c f) (L.both (get_or c f L.never) (L.denied (clears a c f)))

  -- the same with the clear condition asked first
  abbrev pub next_clearing : Action → List X → ℕ → X
  next_clearing a c f = L.both (L.either (sets a c f) (get_or c f L.never)) (L.denied (clears a c f))

  -- the values of all n facts after the action
  unfoldable pub step : ℕ → Action → List X → List X
  step n a c = tabulate n (next a c)

  -- order of set and clear: A fact's conditions are never both true at a step that is taken, so it is the same which of them is asked first.
  abbrev pub OrderFree : Type 0
  OrderFree = (n : ℕ) (a : Action) (c : List X) → applicable n a c ≡ true → (f : ℕ) → f < n → next a c f ≡ next_clearing a c f
