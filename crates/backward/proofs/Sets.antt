-- Sets of facts as words: the word operators are those of sets. Assumes nothing.
use Rattle.backward.proofs.Words.{◌≡◌, refl, sym, ap, subst, ◌∙◌, Bool, true, false, not, ◌&&◌, ◌||◌, ℕ, zero, suc, ◌+◌, ◌*◌, ◌-◌, ◌/◌, ◌%◌, ◌^◌, ◌≤◌, ◌<◌, mod-eq_of_lt, pow-suc, one-mul, arith, eqb, bit_and, bit_or, bit_xor, pow-add, shr-shr, shr_lt, List, length, get_or, eq-eqb, ne_eqb, nat_tests, false≢true, div-eq_of_lt, dec_lt, ℕ_discrete, some, number_of, max_facts, bit, lane_bit, and_none, or_assoc, or-none, some_at, ones, bit-small, bit-and, bit-or, bit-zero, bit-flip}
use lib.{Count.count_leading_zeros, Pow.pow-lt, Pow.shl-shr}
use Rattle.model.proofs.Laws.StateNumbers.{number-of}
use Rattle.std.proofs.lemmas.Nat.{and_mask, and_comm, and_le_l, pow_pos, leading_top, le-div, div_below}
use Rattle.std.specs.Int.Bits.{xor_add_and}

-- fact f has the bit of this lane
abbrev lane_of : ℕ → ℕ
lane_of f = max_facts - suc f

has : (x f : ℕ) → bit max_facts x f ≡ eqb (lane_bit (lane_of f) x) 1
unfolding bit lane_bit
has x f = refl

pub set-none : (f : ℕ) → bit max_facts 0 f ≡ false
set-none f = has 0 f ∙ rw (bit-zero (lane_of f))

pub set-or : (x y f : ℕ) → bit max_facts (bit_or x y) f ≡ (bit max_facts x f || bit max_facts y f)
set-or x y f =
    let l = lane_of f in rw (has (bit_or x y) f, has x f, has y f, bit-or l x y) (grind (arith, nat_tests, bit-small l x, bit-small l y))

pub set-and : (x y f : ℕ) → bit max_facts (bit_and x y) f ≡ (bit max_facts x f && bit max_facts y f)
set-and x y f =
    let l = lane_of f in rw (has (bit_and x y) f, has x f, has y f, bit-and l x y) (grind (arith, nat_tests, bit-small l x, bit-small l y))

set-not : (x f : ℕ) → bit max_facts (bit_xor ones x) f ≡ not (bit max_facts x f)
set-not x f =
    let l = lane_of f in rw (has (bit_xor ones x) f, has x f, bit-flip l x (omega arith)) (grind (arith, nat_tests, bit-small l x))

pub set-rest : (x y f : ℕ) → bit max_facts (bit_and x (bit_xor ones y)) f ≡ (bit max_facts x f && not (bit max_facts y f))
set-rest x y f = set-and x (bit_xor ones y) f ∙ ap (λ b. bit max_facts x f && b) (set-not y f)

-- one fact
pub set-one : (f : ℕ) → f < max_facts → (g : ℕ) → g < max_facts → bit max_facts (2 ^ (max_facts - suc f)) g ≡ eqb f g
unfolding bit
set-one f l g m =
    elim (ℕ_discrete f g) [
      | yes e ↦
          let q : 2 ^ (max_facts - suc g) / 2 ^ (max_facts - suc g) ≡ 1 = ap (λ (x : ℕ). x / 2 ^ (max_facts - suc g)) (omega arith) ∙ shl-shr 1 (max_facts - suc g) in
          rw (e, q) (sym (eq-eqb g g refl))
      | no n ↦ rw (ne_eqb f g n) (ap (λ (x : ℕ). eqb x 1) (apart n))
    ]
  where
    apart : (f ≡ g → ⊥) → 2 ^ (max_facts - suc f) / 2 ^ (max_facts - suc g) % 2 ≡ 0
    apart n =
        elim (dec_lt g f) [
          | yes k ↦ ap (λ (x : ℕ). x % 2) (div-eq_of_lt (pow-lt {i = max_facts - suc f} {j = max_facts - suc g} (omega arith)))
          | no k ↦
              let i : max_facts - suc f ≡ suc (g - suc f) + (max_facts - suc g) = omega arith in
              rw (i, pow-add 2 (suc (g - suc f)) (max_facts - suc g), shl-shr (2 ^ suc (g - suc f)) (max_facts - suc g), pow-suc 2 (g - suc f)) (omega arith)
        ]

-- a bit by its number from below
pub bit-above : (f : ℕ) → f < max_facts → 63 - f ≡ max_facts - suc f
bit-above f l = omega arith

pub top-shifted : (f : ℕ) → f < max_facts → 1 * 2 ^ (63 - f) % 18446744073709551616 ≡ 2 ^ (max_facts - suc f)
top-shifted f l =
    let p : 2 ^ (63 - f) < 2 ^ 64 = pow-lt {i = 63 - f} {j = 64} (omega arith) in
    rw (one-mul (2 ^ (63 - f)), mod-eq_of_lt p, bit-above f l) refl

-- the complement of a word
pub flipped : (x : ℕ) → x < 2 ^ 64 → 18446744073709551615 - x ≡ bit_xor ones x
flipped x l =
    let m : bit_and x (2 ^ 64 - 1) ≡ x = and_mask x 64 ∙ mod-eq_of_lt l in
    omega (arith, xor_add_and ones x, and_comm ones x, m)

-- ---- its first fact

pub first-fact : (x : ℕ) → (x ≡ 0 → ⊥) → x < 2 ^ 64 → (count_leading_zeros 64 x < max_facts) × (bit max_facts x (count_leading_zeros 64 x) ≡ true)
unfolding bit
first-fact x n h =
    let (j, e, l, m) = leading_top 64 x (omega (arith, n)) h in
    let some' : 0 < 2 ^ j = pow_pos j in
    let k : max_facts - suc (count_leading_zeros 64 x) ≡ j = omega (arith, e) in
    let q : x / 2 ^ j ≡ 1 = omega (arith, le-div 1 x (2 ^ j) some' (omega (arith, l)), div_below x (2 ^ j) 2 some' (omega (arith, m, pow-suc 2 j))) in
    (omega (arith, e), rw (k, q) refl)

none-of : (n : ℕ) (p : ℕ → Bool) → ((i : ℕ) → i < n → p i ≡ false) → some n p ≡ false
unfolding some
none-of zero p h = refl
none-of (suc n) p h = rw (h zero (omega arith)) (none-of n (λ i. p (suc i)) (λ i l. h (suc i) (omega arith)))

pub set-empty : (x : ℕ) → x < 2 ^ 64 → eqb x 0 ≡ not (some max_facts (bit max_facts x))
set-empty x h =
    elim (ℕ_discrete x 0) [
      | yes e ↦ rw (e, none-of max_facts (bit max_facts 0) (λ i l. set-none i)) refl
      | no n ↦ let (l, k) = first-fact x n h in rw (ne_eqb x 0 n, some_at max_facts (bit max_facts x) _ l k) refl
    ]

-- a fact that is taken out of a set
pub one-flipped : (f : ℕ) → f < max_facts → 18446744073709551615 - 1 * 2 ^ (63 - f) % 18446744073709551616 ≡ bit_xor ones (2 ^ (max_facts - suc f))
one-flipped f l =
    ap (λ (x : ℕ). 18446744073709551615 - x) (top-shifted f l) ∙ flipped (2 ^ (max_facts - suc f)) (pow-lt {i = max_facts - suc f} {j = 64} (omega arith))

pub taken-out :
    (x f : ℕ) → f < max_facts → (g : ℕ) → g < max_facts →
    bit max_facts (bit_and x (bit_xor ones (2 ^ (max_facts - suc f)))) g ≡ (bit max_facts x g && not (eqb f g))
taken-out x f l g m = set-rest x _ g ∙ ap (λ b. bit max_facts x g && not b) (set-one f l g m)

pub taken-less : (x f : ℕ) → f < max_facts → bit max_facts x f ≡ true → bit_and x (bit_xor ones (2 ^ (max_facts - suc f))) < x
taken-less x f l e =
    elim (ℕ_discrete (bit_and x (bit_xor ones (2 ^ (max_facts - suc f)))) x) [
      | yes same ↦
          let out : bit max_facts x f ≡ false =
          sym (ap (λ (y : ℕ). bit max_facts y f) same) ∙ taken-out x f l f l ∙ rw (eq-eqb f f refl) (and_none (bit max_facts x f))
          in
          absurd (false≢true (sym out ∙ e))
      | no n ↦ omega (arith, n, and_le_l x (bit_xor ones (2 ^ (max_facts - suc f))))
    ]

-- ---- a set that grows: what is so is so of what was met (h), or of what is left (o of the next, r of those after it)

pub grown : (h o r : Bool) {a left h' : Bool} → a ≡ (h || left) → left ≡ (o || r) → h' ≡ (h || o) → a ≡ (h' || r)
grown h o r e k i = e ∙ rw (k, i) (sym (or_assoc h o r))

pub grown-none : (h : Bool) {a left : Bool} → a ≡ (h || left) → left ≡ false → h ≡ a
grown-none h e k = sym (e ∙ rw k (or-none h))

-- ---- a set as a number

pub number-small : (w word : ℕ) → w ≤ max_facts → word < 2 ^ max_facts → word / 2 ^ (max_facts - w) < 2 ^ w
number-small w word l h =
    let e : max_facts ≡ w + (max_facts - w) = omega arith in
    shr_lt w (max_facts - w) (subst (λ (x : ℕ). word < 2 ^ x) e h)

pub number-is :
    (w word : ℕ) (m : List Bool) → w ≤ max_facts → word < 2 ^ max_facts → length m ≤ w → ((f : ℕ) → f < max_facts → bit max_facts word f ≡ get_or m f false) →
    word / 2 ^ (max_facts - w) ≡ number_of w m
unfolding bit
number-is w word m l h z has =
    number-of w (word / 2 ^ (max_facts - w)) m (number-small w word l h) z
    (λ i b.
    let e : (max_facts - w) + (w - suc i) ≡ max_facts - suc i = omega arith in
    rw (shr-shr word (max_facts - w) (w - suc i), e) (has i (omega arith)))
