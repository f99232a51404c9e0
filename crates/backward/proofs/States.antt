-- Lane 0 shows a state: what an action makes of it, and the states of a run. Assumes nothing.
use Rattle.backward.proofs.Words.{◌≡◌, refl, sym, ap, ◌∙◌, Bool, false, List, [], ◌∷◌, ℕ, zero, suc, ◌≤◌, ◌<◌, arith, length, get_or, drop, drop-cons, length-map, get_or-map, is_yes, known, two, three, value_of, literal_of, Action, step, states, action_at, flag, literal-fact, yes-exact, states-size, states-count, length-tabulate, case_in, Cases, case_of, Shows}
use mir.Val.{bool_byte}

-- ---- the states of a run

module _ (n : ℕ) where
  -- each has so many facts
  pub state-length : (plan : List Action) (c : List Bool) → length c ≡ n → (i : ℕ) → i ≤ length plan → length (get_or (states n plan c) i []) ≡ n
  state-length plan c z i l = states-size n plan c z i (omega (arith, states-count n plan c, l))

  -- and is what the step before it makes of the one before
  pub state-next :
      (plan : List Action) (c : List Bool) (i : ℕ) → i < length plan →
      get_or (states n plan c) (suc i) [] ≡ step two n (action_at plan i) (get_or (states n plan c) i [])
  unfolding states action_at
  state-next [] c i l = absurd (omega arith)
  state-next (a ∷ []) c zero l = refl
  state-next (a ∷ b ∷ plan) c zero l = refl
  state-next (a ∷ plan) c (suc i) l = state-next plan (step two n a c) i (omega arith)

  pub state-first : (plan : List Action) (c : List Bool) → get_or (states n plan c) 0 [] ≡ c
  unfolding states
  state-first [] c = refl
  state-first (a ∷ plan) c = refl

-- what is left of a plan
pub drop-action : (plan : List Action) (i : ℕ) → i < length plan → drop i plan ≡ action_at plan i ∷ drop (suc i) plan
unfolding action_at
drop-action plan i l = drop-cons plan i _ l

-- ---- a state in lane 0

pub case-length : (c : Cases) (j : ℕ) → length (case_of c j) ≡ c.facts
unfolding case_in
case-length c j = length-tabulate c.facts _

pub shown-length : (c : Cases) (st : List Bool) → Shows c st → length st ≡ c.facts
shown-length c st h = sym (length-map st known) ∙ ap length (sym h) ∙ case-length c 0

-- a literal's value, where it is a fact
pub shown-value : (c : Cases) (st : List Bool) (f : ℕ) → Shows c st → f < 64 → is_yes (value_of three (case_of c 0) (literal_of f)) ≡ get_or st f false
shown-value c st f h l = rw (literal-fact f l, h, get_or-map known st f false) (yes-exact (get_or st f false))

-- a truth value's byte
pub byte-flag : (b : Bool) → bool_byte b ≡ flag b
byte-flag b = grind arith
