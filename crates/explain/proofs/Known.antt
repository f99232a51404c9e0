-- In a state, given as a case that fixes every fact, formulas and actions read as they do in the state itself. Assumes nothing.
use Rattle.std.proofs.Common.{◌≡◌, refl, sym, ap, ◌∙◌, Bool, true, false, cond, not, ◌&&◌, ◌||◌, List, [], ◌∷◌, map, ℕ, zero, suc, ◌≤◌, arith}
use lib.ListN.{get_or-map}
use Rattle.model.specs.Kleene.{Kleene, both, either, denied, is_yes, known, two, three}
use Rattle.model.specs.Formula.{fact, denial, eval}
use Rattle.model.specs.Action.{Action, condition_of, tabulate, sets, clears, every, exclusive, applicable, next, step}
use Rattle.model.specs.Run.{holds_in, lowest_false}
use Rattle.model.proofs.Laws.Agreement.{yes-exact, read_known}
use Rattle.cases.specs.declared.cases.Cases.{Cases}
use Rattle.cases.specs.Cases.{case_of}
use Rattle.explain.specs.States.{state_in, IsKnown}

-- ---- of any state

yes-known : (st : List Bool) → map is_yes (map known st) ≡ st
yes-known [] = refl
yes-known (b ∷ st) = λ i. yes-exact b i ∷ yes-known st i

map-tabulate : (n : ℕ) (f : ℕ → Bool) → map known (tabulate n f) ≡ tabulate n (λ i. known (f i))
map-tabulate zero f = refl
map-tabulate (suc n) f = ap (λ (t : List Kleene). known (f 0) ∷ t) (map-tabulate n (λ i. f (suc i)))

exclusive-bits : (x y : Bool) → is_yes (denied (both (known x) (known y))) ≡ not (x && y)
exclusive-bits x y = grind arith

next-bits : (x y z : Bool) → either (known x) (both (known y) (denied (known z))) ≡ known (x || (y && not z))
next-bits x y z = grind arith

module _ (st : List Bool) where
  holds-known : holds_in three (map known st) ≡ holds_in two st
  holds-known = λ i φ. (ap is_yes (read_known st φ) ∙ yes-exact (eval two st φ)) i

  module _ (a : Action) where
    exclusive-known : exclusive three a (map known st) ≡ exclusive two a st
    unfolding exclusive
    exclusive-known = λ i f. (at f) i
      where
        at : (f : ℕ) → is_yes (denied (both (sets three a (map known st) f) (clears three a (map known st) f))) ≡ not (sets two a st f && clears two a st f)
        at f = (λ i. is_yes (denied (both (read_known st (condition_of (fact f) a.effects) i) (read_known st (condition_of (denial f) a.effects) i)))) ∙ exclusive-bits _ _

    applicable-known : (n : ℕ) → applicable three n a (map known st) ≡ applicable two n a st
    unfolding applicable
    applicable-known n = λ i. holds-known i a.precondition && every n (exclusive-known i)

    step-known : (n : ℕ) → step three n a (map known st) ≡ map known (step two n a st)
    unfolding step next
    step-known n = ap (tabulate n) (λ i f. (at f) i) ∙ sym (map-tabulate n (next two a st))
      where
        at : (f : ℕ) → next three a (map known st) f ≡ known (next two a st f)
        at f =
            (λ i.
            either (read_known st (condition_of (fact f) a.effects) i)
            (both (get_or-map known st f false i) (denied (read_known st (condition_of (denial f) a.effects) i)))) ∙
            next-bits _ _ _

-- ---- of the state in lane 0

module _ (c : Cases) (H : IsKnown c) where
  pub holds-here : holds_in three (case_of c 0) ≡ holds_in two (state_in c)
  holds-here = ap (holds_in three) H ∙ holds-known (state_in c)

  pub exclusive-here : (a : Action) → exclusive three a (case_of c 0) ≡ exclusive two a (state_in c)
  exclusive-here a = ap (exclusive three a) H ∙ exclusive-known (state_in c) a

  pub applicable-here : (a : Action) (n : ℕ) → applicable three n a (case_of c 0) ≡ applicable two n a (state_in c)
  applicable-here a n = ap (applicable three n a) H ∙ applicable-known (state_in c) a n

  -- and of the one after a step
  module _ (a : Action) (n : ℕ) (d : Cases) (e : case_of d 0 ≡ step three n a (case_of c 0)) where
    step-here : case_of d 0 ≡ map known (step two n a (state_in c))
    step-here = e ∙ ap (step three n a) H ∙ step-known (state_in c) a n

    pub state-after : state_in d ≡ step two n a (state_in c)
    state-after = ap (map is_yes) step-here ∙ yes-known _

    pub has-state-after : IsKnown d
    has-state-after = rw state-after step-here

-- a case that fixes every fact is a state's
pub has-state : (c : Cases) (st : List Bool) → case_of c 0 ≡ map known st → IsKnown c × (state_in c ≡ st)
has-state c st e =
    let same : state_in c ≡ st = ap (map is_yes) e ∙ yes-known st in
    (rw same e, same)

pub lowest-few : (n : ℕ) (f : ℕ → Bool) → lowest_false n f ≤ n
unfolding lowest_false
lowest-few zero f = omega arith
lowest-few (suc n) f = few (f 0) _ (lowest-few n (λ i. f (suc i)))
  where
    few : (b : Bool) (k : ℕ) → k ≤ n → cond b (suc k) 0 ≤ suc n
    few true k h = omega arith
    few false k h = omega arith
