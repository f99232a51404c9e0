-- Reading a block from left to right: a reader takes a position, and gives a refusal or what it read and the position after it.
use Rattle.std.specs.Prelude.{Bool, cond, ◌&&◌, List, [], ◌∷◌, ◌++◌, ℕ, zero, suc, ◌+◌, ◌-◌, ◌*◌, ◌/◌, ◌%◌, ◌^◌, length, get_or, take, drop, eqb, ltb, leb}
use Rattle.model.specs.Answer.{Answer, refused, answered}

infixl 20 ◌>>=◌ ◌>>◌
pub data Read (A : Type 0) : Type 0 where
  reject : ℕ → ℕ → Read A
  got : A → ℕ → Read A

abbrev pub Reader : Type 0 → Type 0
Reader A = ℕ → Read A

unfoldable pub and_then : {A B : Type 0} → Read A → (A → Reader B) → Read B
and_then (reject n q) k = reject n q
and_then (got a p) k = k a p

-- one reader after another, from the left: the first fault is the answer
unfoldable pub ◌>>=◌ : {A B : Type 0} → Reader A → (A → Reader B) → Reader B
◌>>=◌ r k p = and_then (r p) k

unfoldable pub ◌>>◌ : {A B : Type 0} → Reader A → Reader B → Reader B
◌>>◌ r t p = and_then (r p) (λ a. t)

unfoldable pub done : {A : Type 0} → A → Reader A
done a p = got a p

unfoldable pub position : Reader ℕ
position p = got p p

-- a refusal with this number at this place unless the test holds
unfoldable pub require : Bool → ℕ → ℕ → Reader (Unit {0})
require test number place p = cond test (got tt p) (reject number place)

-- what a block gives that is read from its first byte
unfoldable pub answer_of : {A : Type 0} → Read A → Answer A
answer_of (reject n q) = refused n q
answer_of (got a p) = answered a

-- a number of several bytes, the highest first
unfoldable pub big_endian_from : ℕ → List ℕ → ℕ
big_endian_from n [] = n
big_endian_from n (b ∷ bs) = big_endian_from (n * 256 + b) bs

abbrev pub big_endian : List ℕ → ℕ
big_endian bs = big_endian_from 0 bs

-- a number as so many bytes, the highest first
unfoldable pub bytes_of : ℕ → ℕ → List ℕ
bytes_of zero n = []
bytes_of (suc k) n = (n / 256 ^ k) % 256 ∷ bytes_of k n

-- each block begins with its version, and with the length of what follows in four bytes
abbrev pub head_bytes : ℕ
head_bytes = 5

unfoldable pub block : ℕ → List ℕ → List ℕ
block version body = version ∷ (bytes_of 4 (length body) ++ body)

module _ (s : List ℕ) where
  -- the byte here, where it stands before `end`; else the refusal is at `end`
  unfoldable pub byte : ℕ → ℕ → Reader ℕ
  byte end number p = cond (ltb p end) (got (get_or s p 0) (p + 1)) (reject number end)

  -- the byte here, which the block's length has counted
  unfoldable pub counted : Reader ℕ
  counted p = got (get_or s p 0) (p + 1)

  -- a block of this version, and otherwise the fault of this number at 0
  unfoldable pub of_version : ℕ → ℕ → Reader (Unit {0})
  of_version version number = require (eqb (get_or s 0 0) version) number 0

  -- block header: of a block of at most `most` bytes, whose version is tested by `versions`. Its faults have the numbers from the given one on: too
  -- long a block, at the byte past the most; one with no room for a header, at its length; what the version is refused for; a length that is not
  -- that of the bytes that follow, at 1.
  unfoldable pub header : ℕ → ℕ → Reader (Unit {0}) → Reader (Unit {0})
  header number most versions = do
    require (leb (length s) most) number most
    require (leb head_bytes (length s)) (number + 1) (length s)
    versions
    require (eqb (big_endian (take 4 (drop 1 s))) (length s - head_bytes)) (number + 3) 1
    λ p. got tt head_bytes

  -- a count of one byte, refused with `number` at its place where it is not from `low` to `high`, and with 14, at the block's length, where the block
  -- ends before it
  unfoldable pub count : ℕ → ℕ → ℕ → Reader ℕ
  count number low high = do
    p ← position
    n ← byte (length s) 14
    require (leb low n && leb n high) number p
    done n
