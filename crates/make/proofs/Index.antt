-- The number of a name in a list of names. Assumes nothing.
use Rattle.std.proofs.Common.{◌≡◌, refl, sym, true, false, List, ℕ, zero, suc, ◌<◌, arith, Some}
use Rattle.std.specs.Str.{bytes_eq}
use Rattle.std.proofs.lemmas.Bool.{false_from_ne_true}
use Rattle.std.proofs.lemmas.Slice.Eq.{bytes_eq-Decides}
use Rattle.model.specs.Action.{tabulate}
use Rattle.names.specs.Names.{name_of, Named}
use Rattle.make.specs.FormulaText.{index_of}

-- a word is the same as itself, and as no other
pub same-words : (v w : List ℕ) → v ≡ w → bytes_eq v w ≡ true
same-words v w e = (bytes_eq-Decides v w).1 e

pub other-words : (v w : List ℕ) → (v ≡ w → ⊥) → bytes_eq v w ≡ false
other-words v w n = false_from_ne_true (bytes_eq v w) (λ h. n ((bytes_eq-Decides v w).0 h))

-- as the test of two words that are turned
pub words-turned : (v w : List ℕ) → bytes_eq v w ≡ false → bytes_eq w v ≡ false
words-turned v w h = other-words w v (λ e. let t = same-words v w (sym e) in cc)

-- and so in a list that is given by its numbers
pub index-tabulated :
    (n : ℕ) (f : ℕ → List ℕ) → ((i j : ℕ) → i < n → j < n → f i ≡ f j → i ≡ j) → (i : ℕ) → i < n → index_of (tabulate n f) (f i) ≡ Some i
unfolding index_of
index-tabulated zero f distinct i h = absurd (omega arith)
index-tabulated (suc n) f distinct zero h = rw (same-words (f 0) (f 0) refl)
index-tabulated (suc n) f distinct (suc i) h =
    let no : bytes_eq (f 0) (f (suc i)) ≡ false =
    other-words (f 0) (f (suc i)) (λ e. let z : 0 ≡ suc i = distinct 0 (suc i) (omega arith) h e in absurd (omega arith)) in
    let rest =
    index-tabulated n (λ j. f (suc j)) (λ i j a b e. let z : suc i ≡ suc j = distinct (suc i) (suc j) (omega arith) (omega arith) e in omega arith) i (omega arith) in
    rw (no, rest)

-- names of n things are found at their numbers
pub index-named : (n : ℕ) (names : List (List ℕ)) → Named n names → (i : ℕ) → i < n → index_of (tabulate n (name_of names)) (name_of names i) ≡ Some i
index-named n names named i h = index-tabulated n (name_of names) named.distinct i h
