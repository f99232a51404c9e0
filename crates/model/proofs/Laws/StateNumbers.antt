-- The number of a state or of a set of facts, and its bits: each tells the other. Assumes nothing.
use Rattle.std.proofs.lemmas.Nat.Bits.{bit_at_cat_low, same_from_bits_below}
use Rattle.model.proofs.Words.{◌≡◌, refl, sym, ap, ◌∙◌, Bool, false, List, [], ◌∷◌, ℕ, zero, suc, ◌+◌, ◌-◌, ◌*◌, ◌/◌, ◌%◌, ◌^◌, ◌≤◌, ◌<◌, zero-div, add-mul, mul_assoc, arith, length, get_or, eqb, pow_pos, pow-add, bit, flag, number_of}
use Rattle.model.proofs.Laws.Cover.{Block}

-- ---- the top bit

-- a number by its top bit and the rest
top_bit : (w r : ℕ) (b : Bool) → r < 2 ^ w → bit (suc w) (flag b * 2 ^ w + r) 0 ≡ b
unfolding bit
top_bit w r b h = grind arith

-- ---- the bits of a number

cons-is : (w : ℕ) (b : Bool) (bs : List Bool) → number_of (suc w) (b ∷ bs) ≡ flag b * 2 ^ w + number_of w bs
unfolding number_of
cons-is w b bs = let e : suc w - 1 ≡ w = omega arith in rw e refl

pub number-below : (w : ℕ) (bs : List Bool) → length bs ≤ w → number_of w bs < 2 ^ w
unfolding number_of
number-below w [] h = pow_pos w
number-below zero (b ∷ bs) h = absurd (omega arith)
number-below (suc w) (b ∷ bs) h = grind (arith, (number-below w bs))

-- no bit past the values is set
pub number-block : (w : ℕ) (bs : List Bool) → length bs ≤ w → Block w (length bs) (number_of w bs)
unfolding number_of
number-block w [] h = record { q = 0; is = omega arith }
number-block zero (b ∷ bs) h = absurd (omega arith)
number-block (suc w) (b ∷ bs) h =
    let o = number-block w bs (omega arith) in
    let e : suc w - suc (length bs) ≡ w - length bs = omega arith in
    let d : 2 ^ w ≡ 2 ^ length bs * 2 ^ (w - length bs) = ap (λ (x : ℕ). 2 ^ x) (omega arith) ∙ pow-add 2 (length bs) (w - length bs) in
    record {
      q = flag b * 2 ^ length bs + o.q;
      is = cons-is w b bs ∙ rw (e, d, o.is) (sym (add-mul (flag b * 2 ^ length bs) o.q (2 ^ (w - length bs)) ∙ rw (mul_assoc (flag b) (2 ^ length bs) (2 ^ (w - length bs)))));
    }

pub number_bit : (w : ℕ) (bs : List Bool) → length bs ≤ w → (i : ℕ) → i < w → bit w (number_of w bs) i ≡ get_or bs i false
unfolding number_of bit
number_bit w [] h i l = ap (λ (x : ℕ). eqb (x % 2) 1) (zero-div (2 ^ (w - suc i)))
number_bit zero (b ∷ bs) h i l = absurd (omega arith)
number_bit (suc w) (b ∷ bs) h zero l = grind (arith, top_bit, (number-below w bs))
number_bit (suc w) (b ∷ bs) h (suc i) l = grind (arith, bit_at_cat_low, (number_bit w bs (omega arith) i (omega arith)))

-- ---- a number is known by its bits

bit-known : (x y : ℕ) → eqb (x % 2) 1 ≡ eqb (y % 2) 1 → x % 2 ≡ y % 2
bit-known x y e = grind arith

pub number-of :
    (w x : ℕ) (bs : List Bool) → x < 2 ^ w → length bs ≤ w → ((i : ℕ) → i < w → bit w x i ≡ get_or bs i false) → x ≡ number_of w bs
unfolding bit
number-of w x bs h l e =
    same_from_bits_below w x (number_of w bs) h (number-below w bs l) λ i m.
    let j : w - suc (w - suc i) ≡ i = omega arith in
    let s : bit w x (w - suc i) ≡ bit w (number_of w bs) (w - suc i) = e _ (omega arith) ∙ sym (number_bit w bs l _ (omega arith)) in
    bit-known (x / 2 ^ i) (number_of w bs / 2 ^ i) (rw j at s)
