-- Numbers in bytes, one byte more at a time. Assumes nothing.
use Rattle.std.proofs.Common.{◌≡◌, refl, List, [], ◌∷◌, ◌++◌, ℕ, suc, ◌+◌, ◌-◌, ◌*◌, ◌/◌, ◌%◌, ◌^◌, ◌≤◌, ◌<◌, add-one, arith, length, get_or, take, drop, set}
use Rattle.std.proofs.lemmas.List.{take_more, drop-set}
use native.Mathlib.Nat.{pow-suc, pow-le-pow_right, div-div-eq-div-mul}
use Rattle.model.specs.Read.{big_endian_from, big_endian, bytes_of}

-- ---- reading

from_last : (xs : List ℕ) (a b : ℕ) → big_endian_from a (xs ++ (b ∷ [])) ≡ big_endian_from a xs * 256 + b
unfolding big_endian_from
from_last [] a b = refl
from_last (x ∷ xs) a b = from_last xs (a * 256 + x) b

pub one_more : (s : List ℕ) (i x : ℕ) → i < length s → x ≡ big_endian (take i s) → x * 256 + get_or s i 0 ≡ big_endian (take (i + 1) s)
one_more s i x h e = rw (take_more s i 0 h, from_last, e)

-- i bytes, and one more
pub grows : (i x b : ℕ) → x < 256 ^ i → b < 256 → x * 256 + b < 256 ^ (i + 1)
grows i x b h k = rw (add-one, pow-suc 256 i) (omega arith)

pub fits : (i x b : ℕ) → i < 8 → x < 256 ^ i → b < 256 → x * 256 + b < 2 ^ 64
fits i x b l h k = omega (arith, grows i x b h k, pow-le-pow_right {n = 256} (omega arith) {i = i + 1} {j = 8} (omega arith))

-- ---- writing

-- the bytes from i on are stored: one before them, and what is left of x
pub byte-before :
    (out : List ℕ) (i n x rest : ℕ) → 0 < i → i ≤ n → n ≡ length out → drop i out ≡ bytes_of (n - i) x → rest ≡ x / 256 ^ (n - i) →
    (drop (i - 1) (set out (i - 1) (rest % 256)) ≡ bytes_of (n - (i - 1)) x) × (rest / 256 ≡ x / 256 ^ (n - (i - 1)))
unfolding bytes_of
byte-before out i n x rest p q l d e =
    let m : n - (i - 1) ≡ suc (n - i) = omega arith in
    let o : i - 1 + 1 ≡ i = omega arith in (
      rw (drop-set out (i - 1) (rest % 256) (omega (arith, l)), o, d, m, e),
      rw (m, pow-suc 256 (n - i), e) (div-div-eq-div-mul x (256 ^ (n - i)) 256),
    )
