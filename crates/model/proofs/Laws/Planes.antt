-- Values in lanes: the word operators are the connectives in every lane. Assumes nothing.
use Rattle.std.proofs.lemmas.Nat.Bits.{bit_at_ones, bit_at_and, bit_at_or, bit_at_xor}
use Rattle.model.proofs.Words.{◌≡◌, ap, List, ℕ, ◌+◌, ◌*◌, ◌-◌, ◌/◌, ◌%◌, ◌^◌, ◌≤◌, ◌<◌, min, max, arith, mod-lt, zero-div, ℕ_discrete, length, get_or, set, length-set, get_or-set_same, get_or-set_other, bit_and, bit_or, bit_xor, lt-ltb, le-ltb, Kleene, No, Unknown, Yes, both, either, denied, three, fact, denial, value_of, literal_of, lane_bit, InLane, InLanes, Table}
pub use Rattle.model.specs.Planes.{ones}

-- ---- bits

pub bit-small : (j x : ℕ) → lane_bit j x < 2
unfolding lane_bit
bit-small j x = mod-lt (x / 2 ^ j) (omega arith)

pub low_bit : (x : ℕ) → lane_bit 0 x ≡ x % 2
unfolding lane_bit
low_bit x = ap (λ (y : ℕ). y % 2) (omega arith)

pub bit-and : (j a b : ℕ) → lane_bit j (bit_and a b) ≡ min (lane_bit j a) (lane_bit j b)
unfolding lane_bit
bit-and j a b = bit_at_and a b j

pub bit-or : (j a b : ℕ) → lane_bit j (bit_or a b) ≡ max (lane_bit j a) (lane_bit j b)
unfolding lane_bit
bit-or j a b = bit_at_or a b j

pub bit-ones : (j : ℕ) → j < 64 → lane_bit j ones ≡ 1
unfolding lane_bit
bit-ones j h = bit_at_ones 64 j h

pub bit-zero : (j : ℕ) → lane_bit j 0 ≡ 0
unfolding lane_bit
bit-zero j = ap (λ (x : ℕ). x % 2) (zero-div (2 ^ j))

pub bit-flip : (j x : ℕ) → j < 64 → lane_bit j (bit_xor ones x) ≡ 1 - lane_bit j x
unfolding lane_bit
bit-flip j x h = omega (arith, bit_at_xor ones x j, bit-ones j h, bit-small j x)

-- ---- the connectives in a lane

module _ (j : ℕ) {some sure : ℕ} {x : Kleene} (h : InLane j some sure x) where
  module _ {some' sure' : ℕ} {y : Kleene} (k : InLane j some' sure' y) where
    pub lane-both : InLane j (bit_and some some') (bit_and sure sure') (both x y)
    lane-both = grind (arith, bit-and)

    pub lane-either : InLane j (bit_or some some') (bit_or sure sure') (either x y)
    lane-either = grind (arith, bit-or)

  pub lane-denied : j < 64 → InLane j (bit_xor ones sure) (bit_xor ones some) (denied x)
  lane-denied l = grind (arith, bit-flip)

-- one value in every lane
pub all-no : {j : ℕ} → InLane j 0 0 No
all-no {j} = record { is_some = bit-zero j; is_sure = bit-zero j }

pub all_yes : {j : ℕ} → j < 64 → InLane j ones ones Yes
all_yes {j} l = record { is_some = bit-ones j l; is_sure = bit-ones j l }

pub all-unknown : {j : ℕ} → j < 64 → InLane j ones 0 Unknown
all-unknown {j} l = record { is_some = bit-ones j l; is_sure = bit-zero j }

-- ---- a table in which one fact gets new values, and its denial with it

pub literal-fact : (b : ℕ) → b < 64 → literal_of b ≡ fact b
unfolding literal_of
literal-fact b h = rw (lt-ltb b 64 h)

pub literal-denial : (b : ℕ) → 64 ≤ b → literal_of b ≡ denial (b - 64)
unfolding literal_of
literal-denial b h = rw (le-ltb b 64 h)

-- the denial of the literal l is the literal m
pub other-literal : (case : List Kleene) (l m : ℕ) → l < 128 → m ≡ (l + 64) % 128 → value_of three case (literal_of m) ≡ denied (value_of three case (literal_of l))
other-literal case l m small other = grind (arith, literal-fact, literal-denial)

-- a literal's value is known by its fact's
value_same :
    (c c' : List Kleene) (b : ℕ) → b < 128 → get_or c' (b % 64) No ≡ get_or c (b % 64) No →
    value_of three c' (literal_of b) ≡ value_of three c (literal_of b)
value_same c c' b l e = grind (arith, literal-fact, literal-denial)

-- the value t stands in lane j of the two words of the literal l
abbrev Stands : List ℕ → ℕ → ℕ → Kleene → Type 0
Stands c l j t = InLane j (get_or c (2 * l) 0) (get_or c (2 * l + 1) 0) t

-- the table with new words for the literal l
abbrev pub with_words : List ℕ → ℕ → ℕ → ℕ → List ℕ
with_words c l some sure = set (set c (2 * l) some) (2 * l + 1) sure

words-other :
    (c : List ℕ) (l some sure b : ℕ) {j : ℕ} {t : Kleene} → (b ≡ l → ⊥) → Stands c b j t → Stands (with_words c l some sure) b j t
words-other c l some sure b n h = grind (arith, get_or-set_other)

module _ (c : List ℕ) (l some sure : ℕ) (size : length c ≡ 256) (small : l < 128) where
  words_same : {j : ℕ} {t : Kleene} → InLane j some sure t → Stands (with_words c l some sure) l j t
  words_same h = grind (arith, get_or-set_other, get_or-set_same, length-set)

-- and those of its denial
abbrev pub with_literal : List ℕ → ℕ → ℕ → ℕ → ℕ → List ℕ
with_literal c l m some sure = with_words (with_words c l some sure) m (bit_xor ones sure) (bit_xor ones some)

module _ (c : List ℕ) (l m some sure : ℕ) (size : length c ≡ 256) (small : l < 128) (other : m ≡ (l + 64) % 128) where
  abbrev first : List ℕ
  first = with_words c l some sure

  pub length-with_literal : length (with_literal c l m some sure) ≡ 256
  length-with_literal = simp length-set size

  module _ (case case' : ℕ → List Kleene) (t : ℕ → Kleene) (old : Table c case) (new : InLanes some sure t)
      (same : (j g : ℕ) → (g ≡ l → ⊥) → (g + 64 ≡ l → ⊥) → get_or (case' j) g No ≡ get_or (case j) g No)
      (at : (j : ℕ) → j < 64 → value_of three (case' j) (literal_of l) ≡ t j) where
    by-literal : (b : ℕ) → b < 128 → (j : ℕ) → j < 64 → Stands (with_literal c l m some sure) b j (value_of three (case' j) (literal_of b))
    by-literal b k j i =
        elim (ℕ_discrete b l) [
          | yes e ↦ rw (e, at j i) (words-other first m _ _ l (λ e. omega arith) (words_same c l some sure size small (new.lane j i)))
          | no n ↦
              elim (ℕ_discrete b m) [
                | yes e ↦
                    rw (e, other-literal (case' j) l m small other, at j i)
                    (words_same first m _ _ (simp length-set size) (omega arith) (lane-denied j (new.lane j i) i))
                | no n' ↦
                    rw (value_same (case j) (case' j) b k (same j (b % 64) (λ e. omega arith) (λ e. omega arith)))
                    (words-other first m _ _ b n' (words-other c l some sure b n ((old.literal b k).lane j i)))
              ]
        ]

    pub table-with : Table (with_literal c l m some sure) case'
    table-with = record { literal = λ b k. record { lane = by-literal b k } }

-- a table's cases are known by the 64 facts
pub table_same :
    (c : List ℕ) (case case' : ℕ → List Kleene) → Table c case →
    ((j g : ℕ) → j < 64 → g < 64 → get_or (case' j) g No ≡ get_or (case j) g No) → Table c case'
table_same c case case' old same = record { literal = λ b l. record { lane = λ j m. grind (arith, value_same, (old.literal b l).lane) } }

pub table-fact : (c : List ℕ) (case : ℕ → List Kleene) (f j : ℕ) → Table c case → f < 64 → j < 64 → InLane j (get_or c (2 * f) 0) (get_or c (2 * f + 1) 0) (get_or (case j) f No)
table-fact c case f j h l m = rw (literal-fact f l) at ((h.literal f (omega arith)).lane j m)
