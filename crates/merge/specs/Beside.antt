-- What holds of a merged problem: a plan of it is two plans, one for each hall, and a run of it two runs that go on beside one another.
use Rattle.std.specs.Prelude.{◌≡◌, ◌↔◌, Bool, cond, not, List, [], ◌∷◌, ◌++◌, map, filter, ℕ, zero, suc, ◌+◌, ◌-◌, ◌<◌, length, get_or, ltb}
use Rattle.model.specs.declared.Limits.{Limits}
use Rattle.model.specs.Limits.{version2}
use Rattle.model.specs.Answer.{answered}
use Rattle.model.specs.Run.{Part, at_member, at_fact, Outcome, reached, missed, blocked}
use Rattle.model.specs.Case.{state_of, Task, run_of, IsState, IsStart, Right}
use Rattle.model.specs.Relevance.{number_of}
use Rattle.model.specs.ProblemBytes.{Problem, problem_of, action_at, encode_problem}
use Rattle.model.specs.WellFormed.{PlanOk, ProblemOk}
use Rattle.model.specs.Operations.{task_of}
use Rattle.model.specs.Merging.{moved_action, halls, new_numbers, sized}

-- ---- the steps of a merged plan

-- for each step whether it is the first hall's, of m actions, and whether it is the second's
abbrev pub of_first : ℕ → List ℕ → List Bool
of_first m = map (λ b. ltb b m)

abbrev pub of_second : ℕ → List ℕ → List Bool
of_second m = map (λ b. not (ltb b m))

-- the steps of each hall, by the numbers that its actions have there
abbrev pub first_plan : ℕ → List ℕ → List ℕ
first_plan m = filter (λ b. ltb b m)

abbrev pub second_plan : ℕ → List ℕ → List ℕ
second_plan m plan = map (λ b. b - m) (filter (λ b. not (ltb b m)) plan)

-- where in the merged plan step i of a hall's own steps is
abbrev pub place_of : List Bool → ℕ → ℕ
place_of [] i = i
place_of (own ∷ owns) zero = cond own 0 (suc (place_of owns zero))
place_of (own ∷ owns) (suc i) = suc (cond own (place_of owns i) (place_of owns (suc i)))

-- ---- two runs beside one another

-- what blocks, with its fact moved up by n
abbrev pub moved_part : ℕ → Part → Part
moved_part n (at_member m) = at_member m
moved_part n (at_fact f) = at_fact (n + f)

-- how the run of a hall ends, by the steps and facts of the merged problem
abbrev pub in_merged : List Bool → ℕ → Outcome → Outcome
in_merged owns n reached = reached
in_merged owns n missed = missed
in_merged owns n (blocked p) = blocked (record { step = place_of owns p.step; part = moved_part n p.part })

-- how two runs end beside one another: where the first of them is blocked, and otherwise at both goals
abbrev pub beside : Outcome → Outcome → Outcome
beside reached o = o
beside missed reached = missed
beside missed missed = missed
beside missed (blocked q) = blocked q
beside (blocked p) reached = blocked p
beside (blocked p) missed = blocked p
beside (blocked p) (blocked q) = cond (ltb p.step q.step) (blocked p) (blocked q)

abbrev pub HasStart : Task → Type 0
HasStart T = (s : ℕ) × IsStart T s

module _ (F G : Limits) (p q : Problem) where
  module _ (plan : List ℕ) where
    abbrev firsts : List Bool
    firsts = of_first (length p.actions) plan

    abbrev seconds : List Bool
    seconds = of_second (length p.actions) plan

    -- the merged plan, and what each hall does of it alone
    abbrev pub together : Task
    together = task_of version2 (halls p q) plan

    abbrev pub first_alone : Task
    first_alone = task_of F p (first_plan (length p.actions) plan)

    abbrev pub second_alone : Task
    second_alone = task_of G q (second_plan (length p.actions) plan)

    -- the number of the state that a state of each hall makes
    abbrev pub pair : ℕ → ℕ → ℕ
    pair s t = number_of version2.width (state_of F.width p.facts s ++ state_of G.width q.facts t)

    -- s and t are states of the first hall and of the second
    abbrev pub AreStates : ℕ → ℕ → Type 0
    AreStates s t = IsState first_alone s × IsState second_alone t

    -- halls alone: what a merged plan does is what its steps do in each hall
    pub record RunsBeside : Type 0 where
      -- the steps of each hall are a plan for it
      pub first_ok : PlanOk (length p.actions) (first_plan (length p.actions) plan)
      pub second_ok : PlanOk (length q.actions) (second_plan (length p.actions) plan)
      -- a state of the merged problem is a pair of states, one of each hall
      pub is_state : (s t : ℕ) → AreStates s t → IsState together (pair s t)
      pub is_pair : (u : ℕ) → IsState together u → (s t : ℕ) × AreStates s t × (u ≡ pair s t)
      pub one_pair : (s t s' t' : ℕ) → AreStates s t → AreStates s' t' → pair s t ≡ pair s' t' → (s ≡ s') × (t ≡ t')
      -- it is a start state exactly if both are
      pub starts : (s t : ℕ) → AreStates s t → IsStart together (pair s t) ↔ (IsStart first_alone s × IsStart second_alone t)
      -- its run is blocked exactly where the first of the two is, and reaches the goal exactly if both do
      pub runs :
          (s t : ℕ) → AreStates s t →
          run_of together (pair s t) ≡ beside (in_merged firsts 0 (run_of first_alone s)) (in_merged seconds p.facts (run_of second_alone t))
      -- if each hall has a start state, the plan is right exactly if what each hall does of it is
      pub right : HasStart first_alone → HasStart second_alone → Right together ↔ (Right first_alone × Right second_alone)
      -- where one has none, every plan is right
      pub no_first : (HasStart first_alone → ⊥) → Right together
      pub no_second : (HasStart second_alone → ⊥) → Right together

  -- what a merged problem is, and what its plans do, within the limits
  pub record Merged : Type 0 where
    -- its block is read as it
    pub sound : ProblemOk version2 (halls p q)
    pub read : problem_of version2 (encode_problem version2 (halls p q)) ≡ answered (halls p q)
    -- the table gives each action the number that is its place among those of both halls, and there it is found
    pub numbered :
        (i : ℕ) → i < length p.actions + length q.actions → get_or (new_numbers (length p.actions + length q.actions)) i 0 ≡ i
    pub first_action : (i : ℕ) → i < length p.actions → action_at (halls p q).actions i ≡ action_at p.actions i
    pub second_action :
        (i : ℕ) → i < length q.actions → action_at (halls p q).actions (length p.actions + i) ≡ moved_action p.facts (action_at q.actions i)
    -- its plans
    pub plans : (plan : List ℕ) → PlanOk (length (halls p q).actions) plan → RunsBeside plan

  -- both halls: the limits are those of a sound problem, and within them all of that holds
  pub record BothHalls : Type 0 where
    pub exactly : (sized (halls p q) ≡ answered (halls p q)) ↔ ProblemOk version2 (halls p q)
    pub holds : sized (halls p q) ≡ answered (halls p q) → Merged
