-- A walk and then another one: how it ends. Assumes nothing.
use Rattle.std.proofs.Common.{◌≡◌, refl, sym, ap, ◌∙◌, List, [], ◌++◌, append_assoc, ℕ, ◌+◌, ◌≤◌, arith, append-nil}
use Rattle.model.specs.Walk.{Line, Walked, covered, failed, visits, join}

pub and_then : Walked → Walked → Walked
and_then (covered ls a) (covered ms b) = covered (ls ++ ms) (a + b)
and_then (covered ls a) (failed s b) = failed s (a + b)
and_then (failed s a) y = failed s a

abbrev pub nothing : Walked
nothing = covered [] 0

covered-sum : (ls : List Line) (a b : ℕ) → a ≡ b → covered ls a ≡ covered ls b
covered-sum ls a b e = ap (covered ls) e

failed-sum : (s a b : ℕ) → a ≡ b → failed s a ≡ failed s b
failed-sum s a b e = ap (failed s) e

pub nothing-then : (x : Walked) → and_then nothing x ≡ x
unfolding and_then
nothing-then (covered ls a) = covered-sum ls _ _ (omega arith)
nothing-then (failed s a) = failed-sum s _ _ (omega arith)

pub then-nothing : (x : Walked) → and_then x nothing ≡ x
unfolding and_then
then-nothing (covered ls a) = rw append-nil (covered-sum ls _ _ (omega arith))
then-nothing (failed s a) = refl

then-assoc : (x y z : Walked) → and_then (and_then x y) z ≡ and_then x (and_then y z)
unfolding and_then
then-assoc (covered ls a) (covered ms b) (covered ns c) = rw append_assoc (covered-sum _ _ _ (omega arith))
then-assoc (covered ls a) (covered ms b) (failed s c) = failed-sum s _ _ (omega arith)
then-assoc (covered ls a) (failed s b) z = refl
then-assoc (failed s a) y z = refl

-- a split case: a visit, and then its two parts
join-then : (x y : Walked) → join x y ≡ and_then (covered [] 1) (and_then x y)
unfolding and_then
join-then (covered ls a) (covered ms b) = covered-sum _ _ _ (omega arith)
join-then (covered ls a) (failed s b) = failed-sum s _ _ (omega arith)
join-then (failed s a) y = failed-sum s _ _ (omega arith)

two-covered : (ls ms : List Line) (a b : ℕ) → and_then (covered ls a) (covered ms b) ≡ covered (ls ++ ms) (a + b)
unfolding and_then
two-covered ls ms a b = refl

-- ---- after so many lines and visits

pub then-covered : (ls ms : List Line) (a b : ℕ) (y : Walked) → and_then (covered ls a) (and_then (covered ms b) y) ≡ and_then (covered (ls ++ ms) (a + b)) y
then-covered ls ms a b y = sym (then-assoc (covered ls a) (covered ms b) y) ∙ ap (λ (x : Walked). and_then x y) (two-covered ls ms a b)

pub then-split :
    (ls : List Line) (a : ℕ) (x y z : Walked) → and_then (covered ls a) (and_then (join x y) z) ≡ and_then (covered ls (a + 1)) (and_then x (and_then y z))
then-split ls a x y z =
    ap (λ (t : Walked). and_then (covered ls a) t)
    (ap (λ (t : Walked). and_then t z) (join-then x y) ∙ then-assoc (covered [] 1) (and_then x y) z ∙ ap (and_then (covered [] 1)) (then-assoc x y z)) ∙
    then-covered ls [] a 1 (and_then x (and_then y z)) ∙
    ap (λ (ms : List Line). and_then (covered ms (a + 1)) (and_then x (and_then y z))) (append-nil ls)

pub then-failed : (ls : List Line) (a s b : ℕ) (y : Walked) → and_then (covered ls a) (and_then (failed s b) y) ≡ failed s (a + b)
unfolding and_then
then-failed ls a s b y = refl

pub visits-then : (ls : List Line) (a : ℕ) (x y : Walked) → a + visits x ≤ visits (and_then (covered ls a) (and_then x y))
unfolding and_then
visits-then ls a (covered ms b) (covered ns c) = omega arith
visits-then ls a (covered ms b) (failed s c) = omega arith
visits-then ls a (failed s b) y = omega arith
