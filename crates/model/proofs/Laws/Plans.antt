-- Every short plan: the list of them has each once, by length and then by step numbers, and is so long. Assumes nothing.
use Rattle.model.proofs.Words.{◌≡◌, refl, sym, ap, subst, ◌≢◌, List, [], ◌∷◌, ◌++◌, map, Memᴰ, ℕ, zero, suc, ◌+◌, ◌*◌, ◌≤◌, ◌<◌, arith, dec_lt, length, length-append, length-map, each_step, plans_of, plans_from, plans_up_to, plan_count, IsShort, LowerSteps, Earlier, Sorted, Enumerates, Each}
use mathlib.Core.List.Memᴰ

-- ---- every element of a list

module _ {A : Type 0} where
  pub each_append : (P : A → Type 0) (l m : List A) → Each P l → Each P m → Each P (l ++ m)
  each_append P [] m x y = y
  each_append P (a ∷ l) m x y = (x.0, each_append P l m x.1 y)

  each-if : (P Q : A → Type 0) → ((a : A) → P a → Q a) → (l : List A) → Each P l → Each Q l
  each-if P Q f [] x = tt
  each-if P Q f (a ∷ l) x = (f a x.0, each-if P Q f l x.1)

  pub each_map : (P Q : A → Type 0) (f : A → A) → ((a : A) → P a → Q (f a)) → (l : List A) → Each P l → Each Q (map f l)
  each_map P Q f h [] x = tt
  each_map P Q f h (a ∷ l) x = (h a x.0, each_map P Q f h l x.1)

  -- what holds of each holds of one that stands in the list
  pub each_of : (P : A → Type 0) {a : A} {l : List A} → Memᴰ a l → Each P l → P a
  each_of P (Memᴰ.head e) x = subst P (sym e) x.0
  each_of P (Memᴰ.tail h) x = each_of P h x.1

-- ---- the order

lower-once : (p q : List ℕ) → LowerSteps p q → LowerSteps q p → ⊥
lower-once [] q h k = h
lower-once (a ∷ p) [] h k = h
lower-once (a ∷ p) (b ∷ q) h k = grind (arith, (lower-once p q))

-- of two plans only one is before the other
earlier-once : (p q : List ℕ) → Earlier p q → Earlier q p → ⊥
earlier-once p q h k = grind (arith, (lower-once p q))

-- no plan is before itself
earlier-other : (p q : List ℕ) → Earlier p q → p ≢ q
earlier-other p q h e = let k = subst (Earlier p) (sym e) h in earlier-once p p k k

-- ---- sorted lists

sorted-append : (l k : List (List ℕ)) → Sorted l → Sorted k → Each (λ p. Each (Earlier p) k) l → Sorted (l ++ k)
sorted-append [] k s t x = t
sorted-append (p ∷ l) k s t x = (each_append (Earlier p) l k s.0 x.0, sorted-append l k s.1 t x.1)

sorted_after : (a : ℕ) (ps : List (List ℕ)) → Sorted ps → Sorted (map (λ p. a ∷ p) ps)
sorted_after a [] s = tt
sorted_after a (p ∷ ps) s = grind (arith, (sorted_after a ps s.1), (each_map (Earlier p) (Earlier (a ∷ p))))

-- a plan that stands in a sorted list: what is before it there, and after it
around :
    {p : List ℕ} {plans : List (List ℕ)} → Memᴰ p plans → Sorted plans →
    (before after : List (List ℕ)) × (plans ≡ before ++ (p ∷ after)) × Each (λ q. Earlier q p) before × Each (Earlier p) after
around (Memᴰ.head {xs = after} e) s = ([], after, grind arith, tt, grind arith)
around (Memᴰ.tail {x = q} h) s =
    let (before, after, e, x, y) = around h s.1 in
    (q ∷ before, after, ap (λ (l : List (List ℕ)). q ∷ l) e, (each_of (Earlier q) h s.0, x), y)

-- one that is earlier than p stands before it
pub stands-before :
    (b p : List ℕ) (before after : List (List ℕ)) → Sorted (before ++ (p ∷ after)) → Memᴰ b (before ++ (p ∷ after)) → Earlier b p →
    Memᴰ b before
stands-before b p [] after s h k = grind (arith, (Memᴰ.cases_cons h), earlier-once, each_of)
stands-before b p (q ∷ before) after s h k = grind (arith, (Memᴰ.cases_cons h), Memᴰ.head, Memᴰ.tail, (stands-before b p before after s.1))

module _ (m : ℕ) where
  -- ---- short plans only

  -- over m actions: of one length; and of n lengths from l on
  abbrev OfLength : ℕ → List ℕ → Type 0
  OfLength l p = (length p ≡ l) × Each (λ b. b < m) p

  abbrev LengthFrom : ℕ → ℕ → List ℕ → Type 0
  LengthFrom l n p = (l ≤ length p) × (length p < n + l) × Each (λ b. b < m) p

  step-each : (l n a : ℕ) (ps : List (List ℕ)) → n + a ≤ m → Each (OfLength l) ps → Each (OfLength (suc l)) (each_step n a ps)
  unfolding each_step
  step-each l zero a ps h x = tt
  step-each l (suc n) a ps h x = grind (arith, (step-each l n (suc a) ps), (each_append (OfLength (suc l))), (each_map (OfLength l) (OfLength (suc l))))

  of-each : (l : ℕ) → Each (OfLength l) (plans_of m l)
  unfolding plans_of
  of-each zero = ((refl, tt), tt)
  of-each (suc l) = step-each l m 0 (plans_of m l) (omega arith) (of-each l)

  from_each : (l n : ℕ) → Each (LengthFrom l n) (plans_from m l n)
  unfolding plans_from
  from_each l zero = tt
  from_each l (suc n) = grind (arith, each_append, each-if, of-each, (from_each (suc l) n))

  -- ---- each stands in the list

  step-stands :
      (n a b : ℕ) (p : List ℕ) (ps : List (List ℕ)) → a ≤ b → b < n + a → Memᴰ p ps → Memᴰ (b ∷ p) (each_step n a ps)
  unfolding each_step
  step-stands zero a b p ps l h s = absurd (omega arith)
  step-stands (suc n) a b p ps l h s =
      elim (dec_lt a b) [
        | yes k ↦ Memᴰ.append_right (map (λ q. a ∷ q) ps) (step-stands n (suc a) b p ps k (omega arith) s)
        | no k ↦ grind (arith, (Memᴰ.append_left (each_step n (suc a) ps) (Memᴰ.map (λ q. a ∷ q) s)))
      ]

  of-stands : (p : List ℕ) → Each (λ b. b < m) p → Memᴰ p (plans_of m (length p))
  unfolding plans_of
  of-stands [] x = Memᴰ.head refl
  of-stands (b ∷ p) x = step-stands m 0 b p (plans_of m (length p)) (omega arith) (omega (arith, x.0)) (of-stands p x.1)

  from-stands : (l n : ℕ) (p : List ℕ) → LengthFrom l n p → Memᴰ p (plans_from m l n)
  unfolding plans_from
  from-stands l zero p x = absurd (omega (arith, x.0, x.1))
  from-stands l (suc n) p x =
      elim (dec_lt l (length p)) [
        | yes k ↦ Memᴰ.append_right (plans_of m l) (from-stands (suc l) n p (k, omega (arith, x.1), x.2))
        | no k ↦ grind (arith, (Memᴰ.append_left (plans_from m (suc (length p)) n) (of-stands p x.2)))
      ]

  -- ---- in order

  -- a plan is before those of its length whose first step is higher
  step-earlier :
      (l a : ℕ) (p : List ℕ) → length p ≡ l → (n b : ℕ) (ps : List (List ℕ)) → a < b → Each (OfLength l) ps →
      Each (Earlier (a ∷ p)) (each_step n b ps)
  unfolding each_step
  step-earlier l a p z zero b ps h x = tt
  step-earlier l a p z (suc n) b ps h x = grind (arith, (step-earlier l a p z n (suc b) ps), (each_append (Earlier (a ∷ p))), (each_map (OfLength l) (Earlier (a ∷ p))))

  step-sorted : (l n a : ℕ) (ps : List (List ℕ)) → Each (OfLength l) ps → Sorted ps → Sorted (each_step n a ps)
  unfolding each_step
  step-sorted l zero a ps x s = tt
  step-sorted l (suc n) a ps x s = grind (arith, (step-sorted l n (suc a) ps), sorted-append, sorted_after, step-earlier, (each_map (OfLength l) (λ p. Each (Earlier p) (each_step n (suc a) ps)) (λ p. a ∷ p)))

  of-sorted : (l : ℕ) → Sorted (plans_of m l)
  unfolding plans_of
  of-sorted zero = (tt, tt)
  of-sorted (suc l) = step-sorted l m 0 (plans_of m l) (of-each l) (of-sorted l)

  from_sorted : (l n : ℕ) → Sorted (plans_from m l n)
  unfolding plans_from
  from_sorted l zero = tt
  from_sorted l (suc n) = grind (arith, sorted-append, of-sorted, each-if, from_each, of-each, (from_sorted (suc l) n))

  -- ---- how many they are

  step_count : (n a : ℕ) (ps : List (List ℕ)) → length (each_step n a ps) ≡ n * length ps
  unfolding each_step
  step_count zero a ps = omega arith
  step_count (suc n) a ps = grind (arith, length-append, length-map, (step_count n (suc a) ps))

  from-count : (l n : ℕ) → length (plans_from m (suc l) n) ≡ m * length (plans_from m l n)
  unfolding plans_from plans_of
  from-count l zero = omega arith
  from-count l (suc n) =
      rw (length-append (plans_of m (suc l)) (plans_from m (suc (suc l)) n), length-append (plans_of m l) (plans_from m (suc l) n))
      (omega (arith, step_count m 0 (plans_of m l), from-count (suc l) n))

  up-to-count : (longest : ℕ) → length (plans_up_to m longest) ≡ plan_count m longest
  unfolding plans_up_to plans_from plans_of plan_count
  up-to-count zero = refl
  up-to-count (suc l) = omega (arith, from-count 0 (suc l), ap (λ (x : ℕ). m * x) (up-to-count l))

  module _ (longest : ℕ) where
    pub stands : (p : List ℕ) → IsShort m longest p → Memᴰ p (plans_up_to m longest)
    unfolding plans_up_to
    stands p h = from-stands 0 (suc longest) p (omega arith, omega (arith, h.short), h.actions)

    pub enumerates : Enumerates m longest (plans_up_to m longest)
    unfolding plans_up_to
    enumerates =
        record {
          short = grind (arith, each-if, from_each);
          once = λ p h. grind (arith, (around (stands p h) (from_sorted 0 (suc longest))), (stands p h), (from_sorted 0 (suc longest)), each-if, (each-if (Earlier p)), (earlier-other p));
          sorted = from_sorted 0 (suc longest);
          counted = up-to-count longest;
        }
