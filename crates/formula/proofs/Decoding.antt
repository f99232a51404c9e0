-- What sound bytes begin with. Assumes nothing.
use Rattle.std.proofs.Common.{◌≡◌, refl, ℕ, ◌-◌, ◌≤◌, ◌<◌, List, [], ◌∷◌, length, get_or, take, drop, arith, true, length-drop, leb-true, lt-ltb, le-ltb}
use Rattle.std.proofs.Math.Seq.{take_all}
use mathlib.Core.Bool.{false≢true}
use Rattle.model.specs.Formula.{Formulas, lit, none, more}
use Rattle.model.specs.FormulaBytes.{literal_of, member_count}
use Rattle.model.proofs.Laws.Truth.{and-true}
use Rattle.formula.specs.Decoding.{gathered, head, decode, is_sound}

-- the part of a slice from k on
pub part : (s : List ℕ) (k : ℕ) → take (length s - k) (drop k s) ≡ drop k s
part s k = take_all (length s - k) (drop k s) (omega (arith, length-drop k s))

pub some-byte : (s : List ℕ) → 0 < member_count (decode s) → 0 < length s
unfolding decode
some-byte [] h = h
some-byte (b ∷ s) h = omega arith

pub leaf-first : (b : ℕ) (s : List ℕ) → b < 128 → (decode (b ∷ s) ≡ more (lit (literal_of b)) (decode s)) × (is_sound (b ∷ s) ≡ is_sound s)
unfolding decode is_sound
leaf-first b [] l = (refl, rw (lt-ltb b 128 l))
leaf-first b (n ∷ s) l = (rw (lt-ltb b 128 l), rw (lt-ltb b 128 l))

-- the first byte is a literal's
pub record Leaf (s : List ℕ) : Type 0 where
  pub is : decode s ≡ more (lit (literal_of (get_or s 0 0))) (decode (drop 1 s))
  pub sound : is_sound (drop 1 s) ≡ true

pub leaf : (s : List ℕ) → is_sound s ≡ true → 0 < length s → get_or s 0 0 < 128 → Leaf s
leaf [] e h l = absurd (omega arith)
leaf (b ∷ s) e h l = let (i, z) = leaf-first b s l in record { is = i; sound = rw z at e }

-- the first two are a group's
pub record Branch (s : List ℕ) : Type 0 where
  pub long : 2 ≤ length s
  pub is : decode s ≡ gathered (get_or s 0 0) (get_or s 1 0) (decode (drop 2 s))
  pub fits : get_or s 1 0 ≤ member_count (decode (drop 2 s))
  pub sound : is_sound (drop 2 s) ≡ true

pub branch : (s : List ℕ) → is_sound s ≡ true → 0 < length s → 128 ≤ get_or s 0 0 → Branch s
unfolding decode is_sound
branch [] e h l = absurd (omega arith)
branch (b ∷ []) e h l = let t = le-ltb b 128 l in absurd (false≢true (rw t at e))
branch (b ∷ n ∷ s) e h l =
    let t = le-ltb b 128 l in
    let (f, g) = and-true _ _ (rw t at e) in
    record { long = omega arith; is = rw t; fits = leb-true n _ f; sound = g }

-- a single formula
pub alone : (ms : Formulas) → member_count ms ≡ 1 → ms ≡ more (head ms) none
alone none e = absurd (omega arith)
alone (more m none) e = refl
alone (more m (more a ms)) e = absurd (omega arith)
