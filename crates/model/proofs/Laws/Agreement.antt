-- A relation between two logics that every connective keeps is kept by every reading, step and run. Two instances: a case that says
-- more (`refining`), and a case with every fact fixed (`exact`). Assumes nothing.
use Rattle.model.proofs.Words.{◌≡◌, sym, ap, ◌∙◌, Bool, true, false, List, [], ◌∷◌, map, ℕ, zero, suc, ◌<◌, suc-le-suc, get_or, get_or-map, arith, Kleene, No, Unknown, Yes, both, either, denied, is_yes, known, Logic, two, three, fact, denial, Formula, Formulas, lit, all, any, none, more, eval, eval_all, eval_any, Action, tabulate, sets, clears, exclusive, applicable, next, step, part_of, Outcome, reached, Stop, at_end, goes_on, run}
use Rattle.model.proofs.Laws.Conflicts.{every-at, every-all}

-- an equation in one value, or in two, by the table of its instances
abbrev row : {A : Type 0} → (Kleene → A) → List A
row f = f No ∷ f Unknown ∷ f Yes ∷ []

pub by_row : {A : Type 0} (f g : Kleene → A) → row f ≡ row g → (x : Kleene) → f x ≡ g x
by_row f g e x = grind arith

pub by-table :
    {A : Type 0} (f g : Kleene → Kleene → A) → row (λ x. row (f x)) ≡ row (λ x. row (g x)) → (x y : Kleene) → f x y ≡ g x y
by-table f g e x y = grind arith

-- ---- a run that is reached

pub goes-on-reached : (b : Bool) (r : Outcome) (s : Stop) → goes_on b r s ≡ reached → (b ≡ true) × (r ≡ reached)
unfolding goes_on
goes-on-reached b r s e = grind arith

pub at-end-reached : (b : Bool) → at_end b ≡ reached → b ≡ true
at-end-reached b e = grind arith

-- ---- the relation

pub record Keeps {X Y : Type 0} (L : Logic X) (M : Logic Y) (R : X → Y → Type 0) : Type 0 where
  pub always : R L.always M.always
  pub never : R L.never M.never
  pub both : {x x' : X} {y y' : Y} → R x y → R x' y' → R (L.both x x') (M.both y y')
  pub either : {x x' : X} {y y' : Y} → R x y → R x' y' → R (L.either x x') (M.either y y')
  pub denied : {x : X} {y : Y} → R x y → R (L.denied x) (M.denied y)

module _ {X Y : Type 0} (L : Logic X) (M : Logic Y) (R : X → Y → Type 0) (K : Keeps L M R) where
  -- fact by fact
  abbrev pub Along : List X → List Y → Type 0
  Along c s = (i : ℕ) → R (get_or c i L.never) (get_or s i M.never)

  module _ (c : List X) (s : List Y) (along : Along c s) where
    mutual
      unfolding eval

      pub eval-keeps : (φ : Formula) → R (eval L c φ) (eval M s φ)
      eval-keeps (lit (fact f)) = along f
      eval-keeps (lit (denial f)) = K.denied (along f)
      eval-keeps (all ms) = all-keeps ms
      eval-keeps (any ms) = any-keeps ms

      all-keeps : (ms : Formulas) → R (eval_all L c ms) (eval_all M s ms)
      all-keeps none = K.always
      all-keeps (more m ms) = K.both (eval-keeps m) (all-keeps ms)

      any-keeps : (ms : Formulas) → R (eval_any L c ms) (eval_any M s ms)
      any-keeps none = K.never
      any-keeps (more m ms) = K.either (eval-keeps m) (any-keeps ms)

  pub tabulate-keeps :
      (n : ℕ) (f : ℕ → X) (g : ℕ → Y) → ((i : ℕ) → i < n → R (f i) (g i)) → Along (tabulate n f) (tabulate n g)
  tabulate-keeps zero f g h i = K.never
  tabulate-keeps (suc n) f g h zero = h zero (omega arith)
  tabulate-keeps (suc n) f g h (suc i) = tabulate-keeps n (λ j. f (suc j)) (λ j. g (suc j)) (λ j l. h (suc j) (suc-le-suc l)) i

  pub step_keeps : (n : ℕ) (a : Action) (c : List X) (s : List Y) → Along c s → Along (step L n a c) (step M n a s)
  unfolding step next
  step_keeps n a c s h = grind (arith, tabulate-keeps, eval-keeps)

  -- the "all" of a fact's two conditions, denied
  exclusive-keeps :
      (a : Action) (c : List X) (s : List Y) → Along c s → (f : ℕ) →
      R (L.denied (L.both (sets L a c f) (clears L a c f))) (M.denied (M.both (sets M a s f) (clears M a s f)))
  exclusive-keeps a c s h f = K.denied (K.both (eval-keeps c s h _) (eval-keeps c s h _))

  -- where what holds on the left holds on the right, so does a run that is reached
  pub run-keeps :
      ((x : X) (y : Y) → R x y → L.holds x ≡ true → M.holds y ≡ true) →
      (n : ℕ) (goal : Formula) (plan : List Action) (i : ℕ) (c : List X) (s : List Y) → Along c s →
      run L n goal plan i c ≡ reached → run M n goal plan i s ≡ reached
  unfolding run goes_on applicable exclusive
  run-keeps up n goal [] i c s h e = rw (up _ _ (eval-keeps c s h goal) (at-end-reached _ e))
  run-keeps up n goal (a ∷ plan) i c s h e = grind (arith, (run-keeps up n goal plan (suc i)), (eval-keeps c), (every-all n (exclusive M a s)), (exclusive-keeps a c s h), (every-at n (exclusive L a c)), (step_keeps n a c s h))

  -- where both hold the same, the runs end the same
  pub run-same :
      ((x : X) (y : Y) → R x y → L.holds x ≡ M.holds y) →
      (n : ℕ) (goal : Formula) (plan : List Action) (i : ℕ) (c : List X) (s : List Y) → Along c s →
      run L n goal plan i c ≡ run M n goal plan i s
  unfolding run goes_on applicable exclusive part_of
  run-same same n goal [] i c s h = ap at_end (same _ _ (eval-keeps c s h goal))
  run-same same n goal (a ∷ plan) i c s h = grind (arith, (run-same same n goal plan (suc i) (step L n a c) (step M n a s) (step_keeps n a c s h)), (eval-keeps c), (exclusive-keeps a c s h))

-- ---- a case that says more

pub data Refines : Kleene → Kleene → Type 0 where
  same : {t : Kleene} → Refines t t
  wider : {t : Kleene} → Refines Unknown t

both-refines : {x x' y y' : Kleene} → Refines x y → Refines x' y' → Refines (both x x') (both y y')
both-refines x y = grind arith

denied-refines : {x y : Kleene} → Refines x y → Refines (denied x) (denied y)
denied-refines x = grind (arith, same, wider)

either-refines : {x x' y y' : Kleene} → Refines x y → Refines x' y' → Refines (either x x') (either y y')
either-refines r t = grind arith

pub refining : Keeps three three Refines
refining = record { always = same; never = same; both = both-refines; either = either-refines; denied = denied-refines }

pub refines-yes : (x y : Kleene) → Refines x y → is_yes x ≡ true → is_yes y ≡ true
refines-yes x y z e = grind arith

-- ---- a case with every fact fixed

abbrev pub Exact : Kleene → Bool → Type 0
Exact t b = t ≡ known b

pub yes-exact : (b : Bool) → is_yes (known b) ≡ b
yes-exact b = grind arith

pub exact : Keeps three two Exact
exact = grind arith

-- a state as a case that fixes every fact
pub known-along : (st : List Bool) → Along three two Exact exact (map known st) st
known-along st i = get_or-map known st i false

pub read_known : (st : List Bool) (φ : Formula) → eval three (map known st) φ ≡ known (eval two st φ)
read_known st = eval-keeps three two Exact exact (map known st) st (known-along st)

pub known-inj : {b b' : Bool} → known b ≡ known b' → b ≡ b'
known-inj {b} {b'} e = sym (yes-exact b) ∙ ap is_yes e ∙ yes-exact b'

-- what a case reads as yes or no, one that says more reads so
pub refines-known : {x y : Kleene} (b : Bool) → Refines x y → x ≡ known b → y ≡ known b
refines-known b x e = grind arith
