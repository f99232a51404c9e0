-- Formulas in bytes, and their refusals: 14 and 17 to 21.
use Rattle.std.specs.Prelude.{Bool, cond, ◌&&◌, ◌||◌, not, List, [], ◌∷◌, ◌++◌, ℕ, zero, suc, ◌+◌, ◌-◌, ◌*◌, length, eqb, ltb, leb}
use Rattle.model.specs.Limits.{max_formula_bytes, max_depth}
use Rattle.model.specs.Formula.{Literal, fact, denial, Formula, Formulas, lit, all, any, none, more}
use Rattle.model.specs.Read.{reject, Reader, ◌>>=◌, ◌>>◌, done, position, require, byte, bytes_of}

-- the byte of a declared fact is its number, and that of its denial 64 more. No version has more than 64 facts, so that no byte is both.
unfoldable pub is_literal : ℕ → ℕ → Bool
is_literal facts b = ltb b facts || (leb 64 b && ltb b (64 + facts))

unfoldable pub literal_of : ℕ → Literal
literal_of b = cond (ltb b 64) (fact b) (denial (b - 64))

abbrev pub literal_byte : Literal → ℕ
literal_byte (fact f) = f
literal_byte (denial f) = f + 64

-- a group begins with its mark, hexadecimal 80 for "all" and 81 for "any", and a byte with the count of its members
pub data Group : Type 0 where
  conjunction disjunction : Group

abbrev pub mark : Group → ℕ
mark conjunction = 0x80
mark disjunction = 0x81

abbrev pub grouped : Group → Formulas → Formula
grouped conjunction ms = all ms
grouped disjunction ms = any ms

-- what a formula begins with: a literal, or a group and the count of its members
pub data Head : Type 0 where
  leaf : Literal → Head
  group : Group → ℕ → Head

module _ (s : List ℕ) (end facts : ℕ) where
  -- order of refusals: the mark b at p, in a group whose mark is `parent` (0: in none), where `left` more groups may nest: 18 for a kind within its
  -- own kind, then 19 for too deep a group, and then comes its count
  unfoldable pub group_head : ℕ → ℕ → ℕ → ℕ → Reader Head
  group_head left parent p b = do
    require ((eqb b 0x80 || eqb b 0x81) && not (eqb b parent)) 18 p
    require (ltb 0 left) 19 p
    m ← byte s end 20
    done (group (cond (eqb b 0x80) conjunction disjunction) m)

  -- a formula's next byte: 20, past the stated bytes, where they have ended; 18 at a byte that is neither a declared literal nor a mark that may
  -- stand there; 19 at the mark of a group that is too deep
  unfoldable pub head_from : ℕ → ℕ → ℕ → ℕ → Reader Head
  head_from left parent p b = cond (is_literal facts b) (done (leaf (literal_of b))) (group_head left parent p b)

  unfoldable pub head : ℕ → ℕ → Reader Head
  head left parent = do
    p ← position
    b ← byte s end 20
    head_from left parent p b

  -- so many members, one after the other
  unfoldable pub members : Reader Formula → ℕ → Reader Formulas
  members one zero = done none
  members one (suc n) = do
    m ← one
    ms ← members one n
    done (more m ms)

  -- a head and what belongs to it; `inner` reads a member of a group whose mark it is given
  unfoldable pub whole : (ℕ → Reader Formula) → Head → Reader Formula
  whole inner (leaf l) = done (lit l)
  whole inner (group g m) = do
    ms ← members (inner (mark g)) m
    done (grouped g ms)

  -- a group holds no group of its own kind, and 8 groups at most stand in one another
  unfoldable pub item : ℕ → ℕ → Reader Formula
  item zero parent = head 0 parent >>= whole (λ m p. reject 19 p)
  item (suc left) parent = head (suc left) parent >>= whole (item left)

module _ (s : List ℕ) where
  -- where a formula's stated bytes end: its length has two bytes (14 where they are not there), is 1 to 1,024 (17, at its first byte), and so many
  -- bytes follow (14)
  unfoldable pub stated : Reader ℕ
  stated = do
    start ← position
    high ← byte s (length s) 14
    low ← byte s (length s) 14
    require (leb 1 (high * 256 + low) && leb (high * 256 + low) max_formula_bytes) 17 start
    begin ← position
    require (leb (begin + (high * 256 + low)) (length s)) 14 (length s)
    done (begin + (high * 256 + low))

  -- formula bytes: a formula with its length: 21, at the first of them, where stated bytes are left after it
  unfoldable pub formula : ℕ → Reader Formula
  formula facts = do
    end ← stated
    f ← item s end facts max_depth 0
    stop ← position
    require (leb end stop) 21 stop
    done f

-- The same layout, written.
abbrev pub member_count : Formulas → ℕ
member_count none = 0
member_count (more m ms) = suc (member_count ms)

unfoldable mutual
  pub formula_bytes : Formula → List ℕ
  formula_bytes (lit l) = literal_byte l ∷ []
  formula_bytes (all ms) = 0x80 ∷ member_count ms ∷ member_bytes ms
  formula_bytes (any ms) = 0x81 ∷ member_count ms ∷ member_bytes ms

  pub member_bytes : Formulas → List ℕ
  member_bytes none = []
  member_bytes (more m ms) = formula_bytes m ++ member_bytes ms

unfoldable pub encode_formula : Formula → List ℕ
encode_formula f = bytes_of 2 (length (formula_bytes f)) ++ formula_bytes f
