-- An action that sets and clears a fact: what `every` and `lowest_false` say, applicable in a state where its precondition is true, and the value after a step
-- where the two conditions exclude each other. Assumes nothing.
use Rattle.model.proofs.Words.{◌≡◌, refl, sym, ap, ◌∙◌, Bool, true, false, false≢true, cond, ◌&&◌, ◌↔◌, List, ℕ, zero, suc, ◌≤◌, ◌<◌, suc-le-suc, arith, Logic, two, three, Formula, Formulas, none, more, eval, eval_all, Action, every, exclusive, applicable, next, OrderFree, first_false, unmet, holds_in, lowest_false, Part, at_member, at_fact, part_of, InConflict, FirstFalse, IsUnmet, IsPart}
use Rattle.model.proofs.Laws.Truth.{and-true, and_assoc, and_one}

-- ---- all of the first n, and the lowest that is false

-- all but the first
abbrev after : (ℕ → Bool) → ℕ → Bool
after f k = f (suc k)

pub every-at : (n : ℕ) (f : ℕ → Bool) → every n f ≡ true → (i : ℕ) → i < n → f i ≡ true
unfolding every
every-at zero f e i l = absurd (omega arith)
every-at (suc n) f e zero l = (and-true (f zero) _ e).0
every-at (suc n) f e (suc i) l = every-at n (after f) (and-true (f zero) _ e).1 i (omega arith)

pub every-all : (n : ℕ) (f : ℕ → Bool) → ((i : ℕ) → i < n → f i ≡ true) → every n f ≡ true
unfolding every
every-all zero f h = refl
every-all (suc n) f h = rw (h zero (omega arith)) (every-all n (after f) (λ i l. h (suc i) (suc-le-suc l)))

-- one more, and more of which f is true
pub every-last : (n : ℕ) (f : ℕ → Bool) → every (suc n) f ≡ every n f && f n
unfolding every
every-last zero f = and_one (f zero)
every-last (suc n) f = ap (λ b. f zero && b) (every-last n (after f)) ∙ sym (and_assoc (f zero) _ _)

pub every-same : (m n : ℕ) (f : ℕ → Bool) → m ≤ n → ((i : ℕ) → m ≤ i → i < n → f i ≡ true) → every n f ≡ every m f
every-same m zero f l h = let e : m ≡ 0 = omega arith in rw e
every-same m (suc n) f l h = grind (arith, (every-same m n f), every-last)

-- the lowest number below n of which f is false
pub record Lowest (n : ℕ) (f : ℕ → Bool) (i : ℕ) : Type 0 where
  pub below : i < n
  pub here : f i ≡ false
  pub before : (k : ℕ) → k < i → f k ≡ true

pub lowest-is : (n : ℕ) (f : ℕ → Bool) (i : ℕ) → Lowest n f i → (every n f ≡ false) × (lowest_false n f ≡ i)
unfolding every lowest_false
lowest-is zero f i l = absurd (omega (arith, l.below))
lowest-is (suc n) f zero l = rw l.here (refl, refl)
lowest-is (suc n) f (suc i) l = grind (arith, (lowest-is n (after f) i))

true-after : (f : ℕ → Bool) → f zero ≡ true → (i : ℕ) → ((k : ℕ) → k < i → f (suc k) ≡ true) → (k : ℕ) → k < suc i → f k ≡ true
true-after f h i r zero l = h
true-after f h i r (suc k) l = r k (omega arith)

pub lowest-false : (n : ℕ) (f : ℕ → Bool) → every n f ≡ false → Lowest n f (lowest_false n f)
unfolding every lowest_false
lowest-false zero f e = absurd (false≢true (sym e))
lowest-false (suc n) f e = by_first (f zero) refl e (λ r. lowest-false n (after f) r)
  where
    by_first :
        (b : Bool) → f zero ≡ b → (b && every n (after f)) ≡ false → (every n (after f) ≡ false → Lowest n (after f) (lowest_false n (after f))) →
        Lowest (suc n) f (cond b (suc (lowest_false n (after f))) zero)
    by_first true h e later =
        let r = later e in
        record { below = suc-le-suc r.below; here = r.here; before = true-after f h _ r.before }
    by_first false h e later = record { below = omega arith; here = h; before = λ k l. absurd (omega arith) }

-- ---- the member that is named

first-false : (s : List Bool) (ms : Formulas) → eval_all two s ms ≡ false → FirstFalse s ms (first_false (holds_in two s) ms)
unfolding eval first_false
first-false s none e = absurd (false≢true (sym e))
first-false s (more m ms) e = grind (arith, (first-false s ms))

is-unmet : (s : List Bool) (φ : Formula) → eval two s φ ≡ false → IsUnmet s φ (unmet (holds_in two s) φ)
unfolding eval unmet
is-unmet s φ e = grind (arith, first-false)

-- ---- in a state

module _ (n : ℕ) (a : Action) (s : List Bool) where
  pub applicable-state : (applicable two n a s ≡ true) ↔ ((eval two s a.precondition ≡ true) × ((f : ℕ) → f < n → InConflict s a f → ⊥))
  unfolding applicable exclusive
  applicable-state = grind (arith, (every-at n (exclusive two a s)), (every-all n (exclusive two a s)))

  lowest-conflict : (f : ℕ) → Lowest n (exclusive two a s) f ↔ ((f < n) × InConflict s a f × ((g : ℕ) → g < f → InConflict s a g → ⊥))
  unfolding exclusive
  lowest-conflict f = grind arith

  -- what a block names is the part by which the action is not applicable
  pub part-is : applicable two n a s ≡ false → IsPart n s a (part_of two n a s)
  unfolding applicable part_of
  part-is e = grind (arith, lowest-conflict, lowest-false, is-unmet)

  pub is-part : (p : Part) → IsPart n s a p → (applicable two n a s ≡ false) × (part_of two n a s ≡ p)
  unfolding applicable part_of
  is-part (at_member m) h = rw h.0 (refl, ap at_member h.1)
  is-part (at_fact f) h = grind (arith, (lowest-is n (exclusive two a s) f ((lowest-conflict f).1 (h.1, h.2, h.3))))

-- ---- the value of a fact after a step

-- what an action that is applicable asks of each fact
exclusive-at : {X : Type 0} (L : Logic X) (n : ℕ) (a : Action) (c : List X) → applicable L n a c ≡ true → (f : ℕ) → f < n → exclusive L a c f ≡ true
unfolding applicable
exclusive-at L n a c e f l = every-at n (exclusive L a c) (and-true (L.holds (eval L c a.precondition)) _ e).1 f l

pub order-free-two : OrderFree two
unfolding exclusive next
order-free-two n a c e f l = grind (arith, (exclusive-at two n a c e))

pub order-free-three : OrderFree three
unfolding exclusive next
order-free-three n a c e f l = grind (arith, (exclusive-at three n a c e))
