-- A run that is split in two: its states, how it goes on, and what matters before it. Assumes nothing.
use Rattle.backward.proofs.Words.{◌≡◌, refl, ap, Bool, List, [], ◌∷◌, ◌++◌, ℕ, zero, suc, ◌+◌, ◌≤◌, arith, length, get_or, take, two, Formula, Action, tabulate, step, applicable, Outcome, Stop, reached, goes_on, run, matters_before, states, step-length, matter_before}

went-on : (b : Bool) (rest : Outcome) (s : Stop) → goes_on b rest s ≡ reached → rest ≡ reached
unfolding goes_on
went-on b rest s h = grind arith

module _ (n : ℕ) where
  -- the state after a plan
  unfoldable pub state_after : List Action → List Bool → List Bool
  state_after [] st = st
  state_after (a ∷ plan) st = state_after plan (step two n a st)

  pub after-none : (st : List Bool) → state_after [] st ≡ st
  unfolding state_after
  after-none st = refl

  pub after-both : (p q : List Action) (st : List Bool) → state_after (p ++ q) st ≡ state_after q (state_after p st)
  unfolding state_after
  after-both [] q st = refl
  after-both (a ∷ p) q st = after-both p q (step two n a st)

  pub after-length : (plan : List Action) (st : List Bool) → length st ≡ n → length (state_after plan st) ≡ n
  unfolding state_after
  after-length [] st z = z
  after-length (a ∷ plan) st z = after-length plan (step two n a st) (step-length n a st)

  -- the states of a run are those after its first steps
  pub state-is : (plan : List Action) (st : List Bool) (i : ℕ) → i ≤ length plan → get_or (states n plan st) i [] ≡ state_after (take i plan) st
  unfolding states state_after
  state-is [] st zero l = refl
  state-is [] st (suc i) l = absurd (omega arith)
  state-is (a ∷ plan) st zero l = refl
  state-is (a ∷ plan) st (suc i) l = state-is plan (step two n a st) i (omega arith)

  -- the first k states are those of the first k steps
  pub states-begin : (k : ℕ) (plan : List Action) (st : List Bool) → take k (states n (take k plan) st) ≡ take k (states n plan st)
  unfolding states
  states-begin zero plan st = refl
  states-begin (suc k) [] st = refl
  states-begin (suc k) (a ∷ plan) st = ap (λ (cs : List (List Bool)). st ∷ cs) (states-begin k plan (step two n a st))

  -- a run that is reached goes on after its first steps
  pub goes-on : (goal : Formula) (p q : List Action) (i : ℕ) (st : List Bool) → run two n goal (p ++ q) i st ≡ reached → run two n goal q (i + length p) (state_after p st) ≡ reached
  unfolding run state_after
  goes-on goal [] q i st h = let k : i + 0 ≡ i = omega arith in rw k h
  goes-on goal (a ∷ p) q i st h =
      let k : i + suc (length p) ≡ suc i + length p = omega arith in
      rw k (goes-on goal p q (suc i) (step two n a st) (went-on (applicable two n a st) _ _ h))

  -- what matters before two plans, one after the other
  pub matter-both : (p q : List Action) (m st : List Bool) → matter_before n (p ++ q) m st ≡ matter_before n p (matter_before n q m (state_after p st)) st
  unfolding matter_before state_after
  matter-both [] q m st = refl
  matter-both (a ∷ p) q m st = ap (λ (x : List Bool). tabulate n (matters_before a n st x)) (matter-both p q m (step two n a st))

  pub matter-none : (m st : List Bool) → matter_before n [] m st ≡ m
  unfolding matter_before
  matter-none m st = refl
