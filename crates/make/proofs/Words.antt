-- The first word of a text, and the text after it. Assumes nothing.
use Rattle.std.proofs.Common.{◌≡◌, refl, ap, true, false, not, ◌||◌, eqb, List, [], ◌∷◌, ◌++◌, ℕ, ◌<◌, length, take, take_at, drop_at, arith}
use Rattle.std.proofs.lemmas.Bool.{and_parts, or_parts, not-true}
use Rattle.words.specs.Words.{is_blank, is_bracket, ends_word, past_blanks, run_length, word_length, word, after_word, from_word}
use Rattle.names.specs.Names.{is_one_word, is_name}

-- a text that is empty, or begins with a byte that ends a word
abbrev pub Ends : List ℕ → Type 0
Ends [] = Unit {0}
Ends (b ∷ t) = ends_word b ≡ true

-- a byte that ends no word is no blank, no bracket, and begins no comment
record Goes (b : ℕ) : Type 0 where
  blank : is_blank b ≡ false
  bracket : is_bracket b ≡ false
  comment : eqb b 35 ≡ false

goes : (b : ℕ) → not (ends_word b) ≡ true → Goes b
goes b h =
    let (blank, other) = or_parts (is_blank b) (is_bracket b || eqb b 35) (not-true (ends_word b) h) in
    let (bracket, comment) = or_parts (is_bracket b) (eqb b 35) other in
    record { blank = blank; bracket = bracket; comment = comment }

-- a word's first byte, and the others
one-parts : (b : ℕ) (w : List ℕ) → is_one_word (b ∷ w) ≡ true → (not (ends_word b) ≡ true) × (is_one_word w ≡ true)
one-parts b w h = and_parts (not (ends_word b)) (is_one_word w) h

-- as many bytes as a word has stand before one that ends it
run-is : (w t : List ℕ) → is_one_word w ≡ true → Ends t → run_length (w ++ t) ≡ length w
unfolding run_length
run-is [] [] o e = refl
run-is [] (b ∷ t) o e = rw e
run-is (b ∷ w) t o e =
    let (h, r) = one-parts b w o in
    let goes-on = not-true (ends_word b) h in
    rw (goes-on, run-is w t r e)

length-is : (w t : List ℕ) → 0 < length w → is_one_word w ≡ true → Ends t → word_length (w ++ t) ≡ length w
unfolding word_length
length-is [] t s o e = absurd (omega arith)
length-is (b ∷ w) t s o e =
    let bracket = (goes b (one-parts b w o).0).bracket in
    rw bracket (run-is (b ∷ w) t o e)

-- nothing stands before the word that a text begins with
from-word : (w t : List ℕ) → 0 < length w → is_one_word w ≡ true → from_word (w ++ t) ≡ w ++ t
unfolding past_blanks
from-word [] t s o = absurd (omega arith)
from-word (b ∷ w) t s o =
    let g = goes b (one-parts b w o).0 in
    let comment = g.comment in
    let blank = g.blank in
    rw (comment, blank)

module _ (w t : List ℕ) (some : 0 < length w) (one : is_one_word w ≡ true) (ends : Ends t) where
  -- the first word of a text that begins with a word
  pub word-first : word (w ++ t) ≡ w
  unfolding word
  word-first = rw (from-word w t some one, length-is w t some one ends) (take_at w t (length w) refl)

  -- and what follows it
  pub after-first : after_word (w ++ t) ≡ t
  unfolding after_word
  after-first = rw (from-word w t some one, length-is w t some one ends) (drop_at w t (length w) refl)

-- a name is such a word
pub name-some : (w : List ℕ) → is_name w ≡ true → 0 < length w
name-some [] h = cc
name-some (b ∷ w) h = omega arith

pub name-one : (w : List ℕ) → is_name w ≡ true → is_one_word w ≡ true
name-one [] h = cc
name-one (b ∷ w) h = (and_parts _ _ (and_parts _ _ (and_parts _ _ h).1).1).0

module _ (w t : List ℕ) (name : is_name w ≡ true) (ends : Ends t) where
  pub word-name : word (w ++ t) ≡ w
  word-name = word-first w t (name-some w name) (name-one w name) ends

  pub after-name : after_word (w ++ t) ≡ t
  after-name = after-first w t (name-some w name) (name-one w name) ends

-- blanks before a word
module _ (t : List ℕ) where
  pub word-space : word (32 ∷ t) ≡ word t
  unfolding word past_blanks
  word-space = refl

  pub after-space : after_word (32 ∷ t) ≡ after_word t
  unfolding after_word past_blanks
  after-space = refl

  pub from-space : from_word (32 ∷ t) ≡ from_word t
  unfolding past_blanks
  from-space = refl

  pub from-line : from_word (10 ∷ t) ≡ from_word t
  unfolding past_blanks
  from-line = refl

  -- brackets
  pub word-opening : word (40 ∷ t) ≡ 40 ∷ []
  unfolding word past_blanks word_length
  word-opening = refl

  pub after-opening : after_word (40 ∷ t) ≡ t
  unfolding after_word past_blanks word_length
  after-opening = refl

  pub word-closing : word (41 ∷ t) ≡ 41 ∷ []
  unfolding word past_blanks word_length
  word-closing = refl

  pub after-closing : after_word (41 ∷ t) ≡ t
  unfolding after_word past_blanks word_length
  after-closing = refl

-- words that have the same first word on are read as the same
pub same-word : (u v : List ℕ) → from_word u ≡ from_word v → word u ≡ word v
unfolding word
same-word u v e = ap (λ (s : List ℕ). take (word_length s) s) e
