-- Lists by a rule. Assumes nothing.
use Rattle.model.proofs.Words.{◌≡◌, refl, ap, [], ◌∷◌, ◌++◌, ℕ, zero, suc, ◌≤◌, ◌<◌, le_of_suc-le-suc, not-suc-le-zero, arith, length, get_or, set, get_or-eq_default, tabulate}

pub length-tabulate : {X : Type 0} (n : ℕ) (f : ℕ → X) → length (tabulate n f) ≡ n
length-tabulate zero f = refl
length-tabulate (suc n) f = ap suc (length-tabulate n (λ i. f (suc i)))

pub get_d_tabulate : {X : Type 0} (n : ℕ) (f : ℕ → X) (i : ℕ) (d : X) → i < n → get_or (tabulate n f) i d ≡ f i
get_d_tabulate zero f i d h = absurd (not-suc-le-zero h)
get_d_tabulate (suc n) f zero d h = refl
get_d_tabulate (suc n) f (suc i) d h = get_d_tabulate n (λ j. f (suc j)) i d (le_of_suc-le-suc h)

pub tabulate-below : {X : Type 0} (n : ℕ) (f g : ℕ → X) → ((i : ℕ) → i < n → f i ≡ g i) → tabulate n f ≡ tabulate n g
tabulate-below zero f g h = refl
tabulate-below (suc n) f g h = grind (arith, (tabulate-below n (λ j. f (suc j)) (λ j. g (suc j))))

-- with one value changed
pub set-tabulate :
    {X : Type 0} (n : ℕ) (f g : ℕ → X) (k : ℕ) → k < n → ((i : ℕ) → i < n → (i ≡ k → ⊥) → f i ≡ g i) →
    set (tabulate n f) k (g k) ≡ tabulate n g
set-tabulate zero f g k h e = absurd (not-suc-le-zero h)
set-tabulate (suc n) f g zero h e = ap (λ l. g zero ∷ l) (tabulate-below n _ _ λ i l. e (suc i) (omega arith) (λ p. omega arith))
set-tabulate (suc n) f g (suc k) h e = grind (arith, (set-tabulate n (λ i. f (suc i)) (λ i. g (suc i)) k))

-- past the end
pub getD-tabulate-past : {X : Type 0} (n : ℕ) (f : ℕ → X) (i : ℕ) (d : X) → n ≤ i → get_or (tabulate n f) i d ≡ d
getD-tabulate-past n f i d h = grind (arith, length-tabulate, get_or-eq_default)

-- one more value
pub tabulate-last : {X : Type 0} (n : ℕ) (f : ℕ → X) → tabulate (suc n) f ≡ tabulate n f ++ (f n ∷ [])
tabulate-last zero f = refl
tabulate-last (suc n) f = ap (λ l. f zero ∷ l) (tabulate-last n (λ i. f (suc i)))
