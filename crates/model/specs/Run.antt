-- The run of a plan from one state or case.
use Rattle.std.specs.Prelude.{Bool, true, false, cond, List, [], ◌∷◌, ℕ, zero, suc}
use Rattle.model.specs.Kleene.{Logic}
use Rattle.model.specs.Formula.{Formula, Formulas, lit, all, any, none, more, eval}
use Rattle.model.specs.Action.{Action, exclusive, applicable, step}

-- which member of a precondition is not true, where `holds` says which formulas are: the first such member of an "all", from 0; of any other
-- formula 0
module _ (holds : Formula → Bool) where
  unfoldable pub first_false : Formulas → ℕ
  first_false none = 0
  first_false (more m ms) = cond (holds m) (suc (first_false ms)) 0

  unfoldable pub unmet : Formula → ℕ
  unmet (lit l) = 0
  unmet (all ms) = first_false ms
  unmet (any ms) = 0

-- the formulas that hold in the values c; in a state the others are false
abbrev pub holds_in : {X : Type 0} → Logic X → List X → Formula → Bool
holds_in L c φ = L.holds (eval L c φ)

-- the lowest of the numbers below n of which f is false
unfoldable pub lowest_false : ℕ → (ℕ → Bool) → ℕ
lowest_false zero f = zero
lowest_false (suc n) f = cond (f zero) (suc (lowest_false n (λ i. f (suc i)))) zero

-- blocking part: what keeps an action from being applicable: a member of its precondition by number, or a fact, which is set and cleared at once
pub data Part : Type 0 where
  at_member at_fact : ℕ → Part

-- which of them it is: the precondition is looked at first, and then the facts, the lowest first
unfoldable pub part_of : {X : Type 0} → Logic X → ℕ → Action → List X → Part
part_of L n a c =
    let member = unmet (holds_in L c) a.precondition in
    cond (holds_in L c a.precondition) (at_fact (lowest_false n (exclusive L a c))) (at_member member)

-- where a run is blocked: the number of the first step whose action is not applicable, from 0, and what keeps it from being so
pub record Stop : Type 0 where
  pub step : ℕ
  pub part : Part

-- a run is blocked at the first action that is not applicable; else the goal decides at its end
pub data Outcome : Type 0 where
  reached missed : Outcome
  blocked : Stop → Outcome

abbrev pub at_end : Bool → Outcome
at_end true = reached
at_end false = missed

-- what follows an applicable action, else the block
unfoldable pub goes_on : Bool → Outcome → Stop → Outcome
goes_on true rest s = rest
goes_on false rest s = blocked s

-- the run of what is left of a plan over n facts, at step i, from the values c
module _ {X : Type 0} (L : Logic X) (n : ℕ) (goal : Formula) where
  -- runs: how a run ends: at the first step whose action is not applicable, or by the goal after the last
  unfoldable pub run : List Action → ℕ → List X → Outcome
  run [] i c = at_end (L.holds (eval L c goal))
  run (a ∷ plan) i c =
      let rest = run plan (suc i) (step L n a c) in goes_on (applicable L n a c) rest (record { step = i; part = part_of L n a c })
