-- A case split on its next fact: the values of its two parts. Assumes nothing.
use Rattle.model.proofs.Words.{◌≡◌, ap, ◌∙◌, Bool, true, false, cond, ℕ, suc, ◌+◌, ◌-◌, ◌*◌, ◌/◌, ◌%◌, ◌^◌, ◌≤◌, ◌<◌, mul-div_cancel, arith, length, get_or, set, replicate, length-replicate, get_or-replicate, ext_get_or, pow_pos, eqb, ltb, lt-ltb, le-ltb, Kleene, No, Unknown, Yes, known, bit, case_of}
use Rattle.model.proofs.Laws.Tabulate.{length-tabulate, get_d_tabulate, set-tabulate}
use Rattle.model.proofs.Laws.Cover.{Block, pow-half, agree}

-- the value of fact i in the case (k, v)
abbrev value_at : ℕ → ℕ → ℕ → ℕ → Kleene
value_at w k v i = cond (ltb i k) (known (bit w v i)) Unknown

-- the part of the case (k, v) in which fact k is x
abbrev pub part : ℕ → ℕ → ℕ → Bool → ℕ
part w k v true = v + 2 ^ (w - suc k)
part w k v false = v

block-bit : (w k v : ℕ) (b : Block w (suc k) v) → bit w v k ≡ eqb (b.q % 2) 1
unfolding bit
block-bit w k v b = ap (λ (x : ℕ). eqb (x / 2 ^ (w - suc k) % 2) 1) b.is ∙ rw (mul-div_cancel b.q (pow_pos (w - suc k)))

module _ (w k v : ℕ) (h : k < w) (b : Block w k v) where
  pub part_in : (x : Bool) → (v ≤ part w k v x) × (part w k v x + 2 ^ (w - suc k) ≤ v + 2 ^ (w - k))
  part_in x = grind (arith, pow-half)

  pub part-block : (x : Bool) → Block w (suc k) (part w k v x)
  part-block true = record { q = b.q * 2 + 1; is = omega (arith, b.is ∙ ap (λ (x : ℕ). b.q * x) (pow-half w k h)) }
  part-block false = record { q = b.q * 2; is = omega (arith, b.is ∙ ap (λ (x : ℕ). b.q * x) (pow-half w k h)) }

  pub part-bit : (x : Bool) → bit w (part w k v x) k ≡ x
  unfolding part-block
  part-bit true = let o : (b.q * 2 + 1) % 2 ≡ 1 = omega arith in block-bit w k _ (part-block true) ∙ rw o
  part-bit false = let o : b.q * 2 % 2 ≡ 0 = omega arith in block-bit w k _ (part-block false) ∙ rw o

pub length-case : (w n k v : ℕ) → length (case_of w n k v) ≡ n
unfolding case_of
length-case w n k v = length-tabulate n (value_at w k v)

-- a fact that a case does not fix
pub case-unknown : (w n k v f : ℕ) → k ≤ f → f < n → get_or (case_of w n k v) f No ≡ Unknown
unfolding case_of
case-unknown w n k v f h l = get_d_tabulate n (value_at w k v) f No l ∙ rw (le-ltb f k h)

-- and one that it fixes
pub case-known : (w n k v f : ℕ) → f < k → f < n → get_or (case_of w n k v) f No ≡ known (bit w v f)
unfolding case_of
case-known w n k v f h l = get_d_tabulate n (value_at w k v) f No l ∙ rw (lt-ltb f k h)

-- the case that fixes no fact
pub case-first : (w n : ℕ) → case_of w n 0 0 ≡ replicate n Unknown
case-first w n = grind (arith, (ext_get_or No (case_of w n 0 0) (replicate n Unknown)), length-case, length-replicate, case-unknown, get_or-replicate)

module _ (w n k v : ℕ) (k<n : k < n) (n≤w : n ≤ w) (b : Block w k v) where
  case-part : (x : Bool) → case_of w n (suc k) (part w k v x) ≡ set (case_of w n k v) k (known x)
  unfolding case_of
  case-part x = grind (arith, (set-tabulate n (value_at w k v) (value_at w (suc k) (part w k v x)) k), part_in, part-bit, (agree w k v (part w k v x)))

  pub case-no : case_of w n (suc k) v ≡ set (case_of w n k v) k No
  case-no = case-part false

  pub case-yes : case_of w n (suc k) (v + 2 ^ (w - suc k)) ≡ set (case_of w n k v) k Yes
  case-yes = case-part true
