-- The laws of readers: what a reader that succeeds has found, and when one succeeds; numbers in bytes; headers. Assumes nothing.
use Rattle.model.proofs.Words.{◌≡◌, refl, sym, ap, subst, subst₂, ◌∙◌, Bool, true, List, [], ◌∷◌, ◌++◌, ℕ, zero, suc, ◌+◌, ◌-◌, ◌*◌, ◌/◌, ◌%◌, ◌^◌, ◌≤◌, ◌<◌, pow-suc, div-div-eq-div-mul, one-le-pow, mod-eq_of_lt, zero-mul, mul_comm, mul_assoc, zero-add, mod-one, add-one, arith, length, get_or, take, drop, length-append, drop-cons, take_all, take-length, mod-mul, pow-add, leb, leb-true, eqb-true, lt-ltb, le-leb, answered, Read, got, Reader, and_then, ◌>>=◌, ◌>>◌, done, position, require, answer_of, big_endian_from, big_endian, bytes_of, block, byte, of_version, header, count, Bytes}
use Rattle.model.proofs.Laws.Spans.{Span, nothing, next}
use Rattle.model.proofs.Laws.Truth.{and-true}

-- one reader after the other
pub then-got :
    {A B C : Type 0} {x : Read A} {k : A → Reader B} {b : B} {q : ℕ} → and_then x k ≡ got b q →
    ((a : A) (m : ℕ) → x ≡ got a m → k a m ≡ got b q → C) → C
unfolding and_then
then-got h f = grind arith

pub got-inj : {A : Type 0} {a b : A} {p q : ℕ} → got a p ≡ got b q → (a ≡ b) × (p ≡ q)
got-inj h = (cc, cc)

-- a test that a reader asks for
pub needed :
    {B C : Type 0} {b : B} {q : ℕ} (t : Bool) (n o p : ℕ) (k : Unit {0} → Reader B) → and_then (require t n o p) k ≡ got b q →
    (t ≡ true → k tt p ≡ got b q → C) → C
unfolding and_then require
needed t n o p k h f = grind arith

-- what a reader that succeeds gives
pub record Gives {A : Type 0} (x : Read A) (P : A → ℕ → Type 0) : Type 0 where
  pub of : (a : A) (q : ℕ) → x ≡ got a q → P a q

module _ {B : Type 0} {Q : B → ℕ → Type 0} where
  pub gives : {b : B} {p : ℕ} → Q b p → Gives (got b p) Q
  gives x = record { of = λ a q e. subst₂ Q (got-inj e).0 (got-inj e).1 x }

  pub reads :
      {A : Type 0} {P : A → ℕ → Type 0} {x : Read A} {k : A → Reader B} → Gives x P →
      ((a : A) (m : ℕ) → P a m → Gives (k a m) Q) → Gives (and_then x k) Q
  reads f g = record { of = λ b q e. then-got e λ a m e₁ e₂. (g a m (f.of a m e₁)).of b q e₂ }

  -- a reader that ends with another
  pub ends : {P : B → ℕ → Type 0} {x : Read B} → Gives x P → ((a : B) (q : ℕ) → P a q → Q a q) → Gives x Q
  ends f g = record { of = λ a q e. g a q (f.of a q e) }

  pub tests :
      (t : Bool) (n o p : ℕ) (k : Unit {0} → Reader B) → (t ≡ true → Gives (k tt p) Q) → Gives (and_then (require t n o p) k) Q
  tests t n o p k f = record { of = λ b q e. needed t n o p k e λ i e₁. (f i).of b q e₁ }

-- a test alone
pub passed : {Q : Unit {0} → ℕ → Type 0} (t : Bool) (n o p : ℕ) → (t ≡ true → Q tt p) → Gives (require t n o p) Q
unfolding require
passed t n o p f = grind arith

pub answer-got : {A : Type 0} {a : A} (x : Read A) → answer_of x ≡ answered a → (q : ℕ) × (x ≡ got a q)
unfolding answer_of
answer-got x h = grind arith

-- ---- bytes that stand in a block

module _ {s : List ℕ} {end : ℕ} where
  pub empty : {p q : ℕ} → Span s end p [] q → p ≡ q
  empty (nothing e) = e

  pub first : {p q x : ℕ} {xs : List ℕ} → Span s end p (x ∷ xs) q → (p < end) × (get_or s p 0 ≡ x) × Span s end (p + 1) xs q
  first (next l e h) = (l, e, h)

  pub join : {xs ys : List ℕ} {p m q : ℕ} → Span s end p xs m → Span s end m ys q → Span s end p (xs ++ ys) q
  join (nothing e) k = rw e k
  join (next l e h) k = next l e (join h k)

  pub split :
      {C : Type 0} {ys : List ℕ} {p q : ℕ} (xs : List ℕ) → Span s end p (xs ++ ys) q →
      ((m : ℕ) → Span s end p xs m → Span s end m ys q → C) → C
  split {p = p} [] h f = f p (nothing refl) h
  split {p = p} (x ∷ xs) h f = split {p = p + 1} xs (first h).2 λ m a b. f m (next (first h).0 (first h).1 a) b

  pub span-length : {xs : List ℕ} {p q : ℕ} → Span s end p xs q → q ≡ p + length xs
  span-length (nothing e) = omega arith
  span-length (next l e h) = let i = span-length h in omega arith

  pub span-end : {xs : List ℕ} {p q : ℕ} → Span s end p xs q → p ≤ end → q ≤ end
  span-end (nothing e) l = omega arith
  span-end (next m e h) l = span-end h (omega arith)

  pub span-within : {xs : List ℕ} {p q : ℕ} (other : ℕ) → Span s end p xs q → q ≤ other → Span s other p xs q
  span-within other (nothing e) l = nothing e
  span-within other (next {p = p} m e h) l = next {p = p} (omega (arith, span-length h)) e (span-within other h l)

  -- one byte
  pub byte-got : {b p q : ℕ} (number : ℕ) → byte s end number p ≡ got b q → Span s end p (b ∷ []) q
  unfolding byte
  byte-got {b} {p} {q} number h = grind (arith, next, nothing)

  pub byte-gives : (number p : ℕ) → Gives (byte s end number p) (λ b q. Span s end p (b ∷ []) q)
  byte-gives number p = record { of = λ b q e. byte-got number e }

  pub small-byte : Bytes s → (number p : ℕ) → Gives (byte s end number p) (λ b q. Span s end p (b ∷ []) q × (b < 256))
  small-byte sound number p = ends (byte-gives number p) λ b q r. (r, rw (first r).1 at (sound p))

  pub byte-ok : {b p q : ℕ} {xs : List ℕ} (number : ℕ) → Span s end p (b ∷ xs) q → byte s end number p ≡ got b (p + 1)
  unfolding byte
  byte-ok {p = p} number (next l e h) = rw (lt-ltb p end l, e)

module _ {s : List ℕ} where
  -- the bytes that stand there
  pub span-here : (n p q : ℕ) → p + n ≡ q → q ≤ length s → Span s (length s) p (take n (drop p s)) q
  span-here zero p q e h = let i : p ≡ q = omega arith in nothing i
  span-here (suc n) p q e h =
      let l : p < length s = omega arith in
      rw (drop-cons s p 0, ← add-one p) (next l refl (span-here n (p + 1) q (omega arith) h))

  pub span-is : {xs : List ℕ} {p q : ℕ} → Span s (length s) p xs q → take (length xs) (drop p s) ≡ xs
  span-is (nothing e) = refl
  span-is (next {p = p} {xs = xs} l e h) = let i = span-is h in rw (drop-cons s p 0, ← add-one p, e, i)

  -- all of s
  pub whole_is : {xs : List ℕ} → Span s (length s) 0 xs (length s) → s ≡ xs
  whole_is {xs} h = sym (take_all (length xs) s (omega (arith, span-length h))) ∙ span-is h

  pub is_whole : Span s (length s) 0 s (length s)
  is_whole = rw take-length at (span-here (length s) 0 (length s) (omega arith) (omega arith))

-- numbers in bytes; a byte is eight bits
pub byte-bits : (n : ℕ) → 256 ^ n ≡ 2 ^ (8 * n)
byte-bits zero = refl
byte-bits (suc n) = grind (arith, (byte-bits n), (pow-add 2 (8 * n) 8))

pub length-bytes_of : (k n : ℕ) → length (bytes_of k n) ≡ k
unfolding bytes_of
length-bytes_of zero n = refl
length-bytes_of (suc k) n = ap suc (length-bytes_of k n)

from-bytes_of : (k n a : ℕ) → big_endian_from a (bytes_of k n) ≡ a * 256 ^ k + n % 256 ^ k
unfolding big_endian_from bytes_of
from-bytes_of zero n a = omega (arith, mod-one n)
from-bytes_of (suc k) n a = grind (arith, mul_comm, mod-mul, mul_assoc, (from-bytes_of k n (a * 256 + (n / 256 ^ k) % 256)))

from-div : (xs : List ℕ) (a : ℕ) → Bytes xs → big_endian_from a xs / 256 ^ length xs ≡ a
unfolding big_endian_from
from-div [] a h = omega arith
from-div (x ∷ xs) a h = rw (pow-suc 256 (length xs), ← div-div-eq-div-mul, from-div xs (a * 256 + x) (λ i. h (suc i))) (omega (arith, h 0))

pub bytes_of-from : (xs : List ℕ) (a : ℕ) → Bytes xs → bytes_of (length xs) (big_endian_from a xs) ≡ xs
unfolding big_endian_from bytes_of
bytes_of-from [] a h = refl
bytes_of-from (x ∷ xs) a h =
    let e : (a * 256 + x) % 256 ≡ x = omega (arith, h 0) in
    rw (from-div xs (a * 256 + x) (λ i. h (suc i)), bytes_of-from xs (a * 256 + x) (λ i. h (suc i)), e)

span-bytes : {s : List ℕ} {end : ℕ} {xs : List ℕ} {p q : ℕ} → Bytes s → Span s end p xs q → Bytes xs
span-bytes sound (nothing e) i = omega arith
span-bytes sound (next {p = p} l e h) i = grind (arith, (span-bytes sound h))

-- a number that stands in s as k bytes from p up to q
module _ (s : List ℕ) (k p q : ℕ) where
  pub number-got :
      Bytes s → p + k ≡ q → q ≤ length s →
      (big_endian (take k (drop p s)) < 256 ^ k) × Span s (length s) p (bytes_of k (big_endian (take k (drop p s)))) q
  number-got sound e l = grind (arith, (span-here k p q e l), span-length, span-bytes, (from-div (take k (drop p s)) 0), one-le-pow, (bytes_of-from (take k (drop p s)) 0))

  pub number_ok : (n : ℕ) → n < 256 ^ k → Span s (length s) p (bytes_of k n) q → big_endian (take k (drop p s)) ≡ n
  number_ok n l h = rw (rw length-bytes_of at (span-is h)) (from-bytes_of k n 0 ∙ rw (mod-eq_of_lt l, zero-mul, zero-add))

-- headers
pub length-block : (version : ℕ) (body : List ℕ) → length (block version body) ≡ 5 + length body
unfolding block
length-block version body = rw (length-append (bytes_of 4 (length body)) body, length-bytes_of) (omega arith)

-- a test of the version lets that version pass, and no other
pub record Lets (s : List ℕ) (version : ℕ) (versions : Reader (Unit {0})) : Type 0 where
  pub only : (p : ℕ) → Gives (versions p) (λ _ q. get_or s 0 0 ≡ version)
  pub passes : get_or s 0 0 ≡ version → (p : ℕ) → versions p ≡ got tt p

pub lets-version : (s : List ℕ) (version number : ℕ) → Lets s version (of_version s version number)
unfolding of_version require
lets-version s version number = grind arith

module _ (s : List ℕ) (number most version : ℕ) (versions : Reader (Unit {0})) (lets : Lets s version versions) (p : ℕ) where
  pub header-gives :
      Bytes s →
      Gives (header s number most versions p) λ _ q.
      (q ≡ 5) × (length s ≤ most) × (5 ≤ length s) × ((body : List ℕ) → Span s (length s) 5 body (length s) → s ≡ block version body)
  unfolding header ◌>>◌ block
  header-gives sound =
      tests _ _ _ _ _ λ t₁.
      tests _ _ _ _ _ λ t₂.
      reads (lets.only p) λ _ m v.
      tests _ _ _ _ _ λ t₄.
      let l = leb-true 5 (length s) t₂ in
      let o : 0 < length s = omega arith in
      let n = (number-got s 4 1 5 sound (omega arith) l).1 in
      let f = eqb-true (big_endian (take 4 (drop 1 s))) (length s - 5) t₄ in
      gives (refl, leb-true (length s) most t₁, l, λ body k. grind (arith, whole_is, next, join, span-length))

  pub header_ok :
      (body : List ℕ) → s ≡ block version body → length s ≤ most → most < 5 + 256 ^ 4 →
      (header s number most versions p ≡ got tt 5) × Span s (length s) 5 body (length s)
  unfolding header ◌>>◌ block and_then require
  header_ok body e l k =
      let (o, v, r) = first (subst (λ (xs : List ℕ). Span s (length s) 0 xs (length s)) e is_whole) in
      split (bytes_of 4 (length body)) r λ m a c. grind (arith, span-length, length-bytes_of, (number_ok s 4 1 m (length body)), lets.passes)

-- counts
module _ (s : List ℕ) (number low high p : ℕ) where
  pub count_gives : Gives (count s number low high p) (λ n q. (low ≤ n) × (n ≤ high) × Span s (length s) p (n ∷ []) q)
  unfolding count ◌>>=◌ ◌>>◌ and_then position done
  count_gives =
      reads (byte-gives 14 p) λ b m r.
      tests _ _ _ _ _ λ t.
      let (l, u) = and-true (leb low b) (leb b high) t in
      gives (leb-true low b l, leb-true b high u, r)

  pub count-ok :
      {n q : ℕ} {xs : List ℕ} → low ≤ n → n ≤ high → Span s (length s) p (n ∷ xs) q → count s number low high p ≡ got n (p + 1)
  unfolding count ◌>>=◌ ◌>>◌ and_then position done require
  count-ok {n} l u h = rw (byte-ok 14 h, le-leb low n l, le-leb n high u)
