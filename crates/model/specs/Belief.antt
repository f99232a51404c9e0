-- What a plan means, said of beliefs: a belief is a set of states, any of which may be the true one.
use Rattle.std.specs.Prelude.{◌≡◌, Bool, true, false, List, [], ◌∷◌, ◌++◌, ℕ, ◌<◌, length, get_or}
use Rattle.model.specs.Kleene.{two}
use Rattle.model.specs.Formula.{Formula, Formulas, lit, all, any, none, more, eval}
use Rattle.model.specs.Action.{Action, sets, clears, next}
use Rattle.model.specs.Run.{unmet, holds_in, Part, at_member, at_fact, Stop, Outcome, reached, missed, blocked}

-- beliefs: a set of states, any of which may be the true one
abbrev pub Belief : Type 1
Belief = List Bool → Type 0

-- a formula holds in a belief if it is true in each of its states
abbrev pub Entails : Belief → Formula → Type 0
Entails B p = (s : List Bool) → B s → eval two s p ≡ true

-- in the state s fact f is set and cleared at once
abbrev pub InConflict : List Bool → Action → ℕ → Type 0
InConflict s a f = (sets two a s f ≡ true) × (clears two a s f ≡ true)

-- the members of a group, in order, and member i of them, from 0
abbrev pub members : Formulas → List Formula
members none = []
members (more m ms) = m ∷ members ms

abbrev pub member_at : Formulas → ℕ → Formula
member_at ms i = get_or (members ms) i (all none)

-- in the state t member m of a group is false, and each member before it is true
pub record FirstFalse (t : List Bool) (ms : Formulas) (m : ℕ) : Type 0 where
  pub is_member : m < length (members ms)
  pub is_false : eval two t (member_at ms m) ≡ false
  pub before : (i : ℕ) → i < m → eval two t (member_at ms i) ≡ true

-- the member that a block names, of a formula that is false in the state t: of an "all", the first of its members that is false; of any other
-- formula, 0
abbrev pub IsUnmet : List Bool → Formula → ℕ → Type 0
IsUnmet t (lit l) m = m ≡ 0
IsUnmet t (all ms) m = FirstFalse t ms m
IsUnmet t (any ms) m = m ≡ 0

-- the belief that holds the state s alone
abbrev pub only : List Bool → Belief
only s t = t ≡ s

module _ (n : ℕ) where
  -- an action is applicable in a belief: its precondition holds there, and no state of it sets and clears a fact at once
  abbrev pub ApplicableIn : Belief → Action → Type 0
  ApplicableIn B a = Entails B a.precondition × ((s : List Bool) → B s → (f : ℕ) → f < n → InConflict s a f → ⊥)

  -- the belief after an action: the states t in which every fact is what the action makes of it in some state of B
  pub record Image (a : Action) (B : Belief) (t : List Bool) : Type 0 where
    pub size : length t ≡ n
    pub before : List Bool
    pub held : B before
    pub moves : (f : ℕ) → f < n → get_or t f false ≡ next two a before f

  -- the belief after a plan: after its first action, and then after the others
  abbrev pub after : Belief → List Action → Belief
  after B [] = B
  after B (a ∷ plan) = after (Image a B) plan

  -- a plan is applicable if each of its actions is, in the belief after those before it
  abbrev pub Applicable : Belief → List Action → Type 0
  Applicable B [] = Unit {0}
  Applicable B (a ∷ plan) = ApplicableIn B a × Applicable (Image a B) plan

  -- solutions: the plan is applicable from the belief, and the goal holds in the belief after it
  abbrev pub Solution : Belief → Formula → List Action → Type 0
  Solution B goal plan = Applicable B plan × Entails (after B plan) goal

  -- the belief of a formula: the states in which it is true
  abbrev pub initial_belief : Formula → Belief
  initial_belief initial s = (length s ≡ n) × (eval two s initial ≡ true)

  -- the part that keeps an action from being applicable in the state t: a member of the precondition, which is false; or, where it is
  -- true, the lowest fact in conflict
  abbrev pub IsPart : List Bool → Action → Part → Type 0
  IsPart t a (at_member m) =
      (eval two t a.precondition ≡ false) × (unmet (holds_in two t) a.precondition ≡ m) × IsUnmet t a.precondition m
  IsPart t a (at_fact f) =
      (eval two t a.precondition ≡ true) × (f < n) × InConflict t a f × ((g : ℕ) → g < f → InConflict t a g → ⊥)

  -- the first actions of the plan, as many as the stop's step says, are applicable from B, and the next one is not, by the stop's part
  pub record Blocks (B : Belief) (plan : List Action) (p : Stop) : Type 0 where
    pub before : List Action
    pub action : Action
    pub rest : List Action
    pub parts : plan ≡ before ++ (action ∷ rest)
    pub at : length before ≡ p.step
    pub applicable : Applicable B before
    pub not_applicable : ApplicableIn (after B before) action → ⊥
    pub part : (t : List Bool) → after B before t → IsPart t action p.part

  -- what each outcome of a run says of the plan, from the belief that has the state s alone
  abbrev pub OutcomeMeans : List Bool → Formula → List Action → Outcome → Type 0
  OutcomeMeans s goal plan reached = Solution (only s) goal plan
  OutcomeMeans s goal plan missed = Applicable (only s) plan × (Entails (after (only s) plan) goal → ⊥)
  OutcomeMeans s goal plan (blocked p) = Blocks (only s) plan p
