-- Every short plan, tried in order.
use Rattle.std.specs.Prelude.{◌≡◌, ◌⊎◌, ◌≢◌, List, [], ◌∷◌, ◌++◌, map, ℕ, zero, suc, ◌+◌, ◌-◌, ◌*◌, ◌≤◌, ◌<◌, length}
use Rattle.model.specs.Case.{Task}
use Rattle.model.specs.Walk.{Line, Verdict, right, wrong, undecided, visits, walked, judged}
use Rattle.model.specs.WellFormed.{Each}

-- ---- the plans

-- each of n steps from a on, in turn, before each of the plans
unfoldable pub each_step : ℕ → ℕ → List (List ℕ) → List (List ℕ)
each_step zero a ps = []
each_step (suc n) a ps = map (λ p. a ∷ p) ps ++ each_step n (suc a) ps

-- the plans of one length over m actions: ordered by their first step, then by the second, and so on
unfoldable pub plans_of : ℕ → ℕ → List (List ℕ)
plans_of m zero = [] ∷ []
plans_of m (suc l) = each_step m 0 (plans_of m l)

-- those of n lengths from l on, the shorter first
unfoldable pub plans_from : ℕ → ℕ → ℕ → List (List ℕ)
plans_from m l zero = []
plans_from m l (suc n) = plans_of m l ++ plans_from m (suc l) n

-- short plans: all up to a length
unfoldable pub plans_up_to : ℕ → ℕ → List (List ℕ)
plans_up_to m longest = plans_from m 0 (suc longest)

-- plan count: how many they are: the empty plan, and each of m steps before every plan that is a step shorter
unfoldable pub plan_count : ℕ → ℕ → ℕ
plan_count m zero = 1
plan_count m (suc l) = m * plan_count m l + 1

-- ---- the search

-- what a search finds, with all visits that it used: the first right plan; that there is none; or the first plan for whose walk too few visits were
-- left
pub data Search : Type 0 where
  first_right : List ℕ → ℕ → Search
  none_right : ℕ → Search
  undecided_at : List ℕ → ℕ → Search

-- over any list of plans, each of which makes a task of the problem
module _ (task : List ℕ → Task) where
  module _ (grant : ℕ) where
    -- what the verdict on the plan p makes of a search that had used so many visits, and would go on so
    abbrev pub tried : List ℕ → ℕ → (ℕ → Search) → Verdict (List Line) → Search
    tried p used rest (right ls a) = first_right p (used + a)
    tried p used rest (wrong s o a) = rest (used + a)
    tried p used rest (undecided a) = undecided_at p grant

    -- search: the grant is for all of them: each is judged with the visits that are left
    unfoldable pub search : List (List ℕ) → ℕ → Search
    search [] used = none_right used
    search (p ∷ ps) used = tried p used (search ps) (judged (task p) (grant - used))

  -- the visits of the walks of these plans
  unfoldable pub visits_of : List (List ℕ) → ℕ
  visits_of [] = 0
  visits_of (p ∷ ps) = visits (walked (task p)) + visits_of ps

-- ---- what is to be proved of the plans

-- a plan over m actions, of at most so many steps
pub record IsShort (m longest : ℕ) (p : List ℕ) : Type 0 where
  pub short : length p ≤ longest
  pub actions : Each (λ b. b < m) p

-- p is before q by step numbers, from the first step on
abbrev pub LowerSteps : List ℕ → List ℕ → Type 0
LowerSteps [] q = ⊥
LowerSteps (a ∷ p) [] = ⊥
LowerSteps (a ∷ p) (b ∷ q) = (a < b) ⊎ ((a ≡ b) × LowerSteps p q)

-- p comes before q: it is shorter, or of the same length with the lower step where they first differ
abbrev pub Earlier : List ℕ → List ℕ → Type 0
Earlier p q = (length p < length q) ⊎ ((length p ≡ length q) × LowerSteps p q)

abbrev pub Sorted : List (List ℕ) → Type 0
Sorted [] = Unit {0}
Sorted (p ∷ ps) = Each (Earlier p) ps × Sorted ps

-- every plan up to a length stands in the list once, and nothing else does
pub record Enumerates (m longest : ℕ) (plans : List (List ℕ)) : Type 0 where
  pub short : Each (IsShort m longest) plans
  pub once :
      (p : List ℕ) → IsShort m longest p →
      (before after : List (List ℕ)) × (plans ≡ before ++ (p ∷ after)) × Each (λ q. q ≢ p) before × Each (λ q. q ≢ p) after
  pub sorted : Sorted plans
  pub counted : length plans ≡ plan_count m longest
