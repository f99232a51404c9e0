-- On which start facts a run rests, found by going backward over its steps. A set of facts has a value for each fact, fact 0 first: whether it is
-- a member.
use Rattle.std.specs.Prelude.{◌≡◌, Bool, true, false, cond, ◌&&◌, ◌||◌, List, [], ◌∷◌, ◌++◌, map, ℕ, zero, suc, ◌+◌, ◌-◌, ◌*◌, ◌/◌, ◌^◌, ◌<◌, length, get_or, take, replicate, eqb}
use Rattle.model.specs.Kleene.{two}
use Rattle.model.specs.Formula.{Literal, fact, denial, Formula, Formulas, lit, all, any, none, more}
use Rattle.model.specs.Action.{Effect, Action, same_literal, condition_of, tabulate, sets, step}
use Rattle.model.specs.Run.{reached}
use Rattle.model.specs.Case.{bit, flag, state_of, Task, run_of, IsState}

-- the facts that a formula names: whether f is one of them
abbrev pub fact_of : Literal → ℕ
fact_of (fact f) = f
fact_of (denial f) = f

unfoldable mutual
  pub names : Formula → ℕ → Bool
  names (lit l) f = eqb (fact_of l) f
  names (all ms) f = member_names ms f
  names (any ms) f = member_names ms f

  pub member_names : Formulas → ℕ → Bool
  member_names none f = false
  member_names (more m ms) f = names m f || member_names ms f

-- whether one of p 0, p 1, .. p (n - 1) is true
unfoldable pub some : ℕ → (ℕ → Bool) → Bool
some zero p = false
some (suc n) p = p zero || some n (λ i. p (suc i))

-- whether a literal has an entry
unfoldable pub has_entry : Literal → List Effect → Bool
has_entry l [] = false
has_entry l (e ∷ es) = same_literal l e.literal || has_entry l es

module _ (a : Action) where
  -- whether an action has an entry that sets fact f, and one that clears it
  abbrev pub set_and_cleared : ℕ → Bool
  set_and_cleared g = has_entry (fact g) a.effects && has_entry (denial g) a.effects

  -- the facts of a condition of fact g's, to set or to clear it; a literal without an entry names none
  abbrev pub set_names : ℕ → ℕ → Bool
  set_names g = names (condition_of (fact g) a.effects)

  abbrev pub clear_names : ℕ → ℕ → Bool
  clear_names g = names (condition_of (denial g) a.effects)

  -- on what fact g rests that matters after a step, in the state c before it: where it was surely set, on the facts of its set condition; else on
  -- itself and on the facts of both its conditions
  abbrev pub rests_on : List Bool → ℕ → ℕ → Bool
  rests_on c g f = cond (sets two a c g) (set_names g f) (eqb g f || (set_names g f || clear_names g f))

  -- whether f is named in a condition of one of n facts that the action may both set and clear
  abbrev pub exclusion_names : ℕ → ℕ → Bool
  exclusion_names n f = some n (λ g. set_and_cleared g && (set_names g f || clear_names g f))

  -- whether a fact that matters after the step rests on f
  abbrev pub effect_names : ℕ → List Bool → List Bool → ℕ → Bool
  effect_names n c after f = some n (λ g. get_or after g false && rests_on c g f)

  -- what matters before a step: the facts of its precondition, those of the conditions of every fact that it may both set and clear, and what the
  -- facts rest on that matter after it
  unfoldable pub matters_before : ℕ → List Bool → List Bool → ℕ → Bool
  matters_before n c after f = names a.precondition f || (exclusion_names n f || effect_names n c after f)

module _ (n : ℕ) where
  -- relevant facts: what matters before what is left of a plan, from the state c: at its end, the facts of the goal
  unfoldable pub relevant : Formula → List Action → List Bool → List Bool
  relevant goal [] c = tabulate n (names goal)
  relevant goal (a ∷ plan) c = let after = relevant goal plan (step two n a c) in tabulate n (matters_before a n c after)

  -- run rows: the states of a run: the one before each step, and the last
  unfoldable pub states : List Action → List Bool → List (List Bool)
  states [] c = c ∷ []
  states (a ∷ plan) c = c ∷ states plan (step two n a c)

-- a set as the number of a state, w bits wide, fact 0 on top
unfoldable pub number_of : ℕ → List Bool → ℕ
number_of w [] = 0
number_of w (b ∷ bs) = flag b * 2 ^ (w - 1) + number_of (w - 1) bs

-- a row of the work area: a byte for each fact, 0 or 1
unfoldable pub rows : List (List Bool) → List ℕ
rows [] = []
rows (c ∷ cs) = map flag c ++ rows cs

-- a stretch is the steps from a row that is kept to the next
abbrev pub stretch : ℕ
stretch = 16

-- bytes, and zeros after them up to a length
abbrev pub padded : ℕ → List ℕ → List ℕ
padded n bytes = bytes ++ replicate (n - length bytes) 0

module _ (T : Task) where
  -- relevant set: the start facts that matter before the run of the state numbered s
  unfoldable pub relevant_to : ℕ → ℕ
  relevant_to s = number_of T.width (relevant T.facts T.goal T.plan (state_of T.width T.facts s))

  -- whether fact f is one of them
  abbrev pub is_relevant : ℕ → ℕ → Bool
  is_relevant s f = get_or (relevant T.facts T.goal T.plan (state_of T.width T.facts s)) f false

  -- the states of the run of the state numbered s
  abbrev pub run_states : ℕ → List (List Bool)
  run_states s = states T.facts T.plan (state_of T.width T.facts s)

  -- the bytes that the rows need, one row for each state of the run, and what stands there after the call
  abbrev pub work_bytes : ℕ
  work_bytes = suc (length T.plan) * T.facts

  unfoldable pub run_rows : ℕ → List ℕ
  run_rows s = rows (run_states s)

  -- sparse rows: a row for every 16th state of the run, and 16 rows for the stretch from one such state to the next
  abbrev pub sparse_bytes : ℕ
  sparse_bytes = (length T.plan / stretch + 1 + stretch) * T.facts

  -- the states numbered 0, 16, 32, .. of the run, up to the last such
  abbrev pub kept_states : ℕ → List (List Bool)
  kept_states s = tabulate (length T.plan / stretch + 1) (λ i. get_or (run_states s) (stretch * i) [])

  -- what stands there after the call: the kept states, then the run's first 16, or all where it has fewer, and zeros from there on
  unfoldable pub sparse_rows : ℕ → List ℕ
  sparse_rows s = padded sparse_bytes (rows (kept_states s ++ take stretch (run_states s)))

  -- the states numbered s and t agree on the set numbered m
  abbrev pub AgreeOn : ℕ → ℕ → ℕ → Type 0
  AgreeOn m s t = (f : ℕ) → f < T.facts → bit T.width m f ≡ true → bit T.width t f ≡ bit T.width s f

  -- relevance theorem: what the set is for, of any task
  pub record RestsOnRelevant : Type 0 where
    -- the set is one of declared facts only
    pub is_state : (s : ℕ) → IsState T (relevant_to s)
    -- a declared fact's bit in its number is whether the fact is in the set
    pub each_bit : (s f : ℕ) → f < T.facts → bit T.width (relevant_to s) f ≡ is_relevant s f
    -- from any state that has the same values of these facts the goal is reached too
    pub reached_too : (s : ℕ) → run_of T s ≡ reached → (t : ℕ) → AgreeOn (relevant_to s) s t → run_of T t ≡ reached

-- how a call lays a run out in its work area: the bytes that it needs, and what stands in them after the call
pub record Layout : Type 0 where
  pub need : Task → ℕ
  pub laid_out : Task → ℕ → List ℕ

abbrev pub every_row : Layout
every_row = record { need = work_bytes; laid_out = run_rows }

abbrev pub fewer_rows : Layout
fewer_rows = record { need = sparse_bytes; laid_out = sparse_rows }
