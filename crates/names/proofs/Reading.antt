-- The names of a text, one after the other. Assumes nothing.
use Rattle.std.proofs.Common.{◌≡◌, refl, sym, ◌∙◌, Bool, true, false, cond, not, List, [], ◌∷◌, ℕ, zero, suc, ◌<◌, ◌≤◌, arith, length, take, drop, eqb}
use Rattle.std.proofs.lemmas.Bool.{eqb-false}
use Rattle.std.proofs.lemmas.List.{length-drop}
use Rattle.std.specs.Str.{bytes_eq}
use Rattle.words.specs.Words.{is_blank, past_blanks, from_word, word_length, word, after_word}
use Rattle.names.specs.Lists.{has_ended, words_after_in, words_after}

blanks-within : (inside : Bool) (t : List ℕ) → length (past_blanks inside t) ≤ length t
unfolding past_blanks
blanks-within inside [] = omega arith
blanks-within true (b ∷ t) = omega (arith, blanks-within (not (eqb b 10)) t)
blanks-within false (b ∷ t) = by-byte (eqb b 35) (is_blank b) (blanks-within true t) (blanks-within false t)
  where
    by-byte :
        (c d : Bool) → length (past_blanks true t) ≤ length t → length (past_blanks false t) ≤ length t →
        length (cond c (past_blanks true t) (cond d (past_blanks false t) (b ∷ t))) ≤ suc (length t)
    by-byte true d inside outside = omega (arith, inside)
    by-byte false true inside outside = omega (arith, outside)
    by-byte false false inside outside = omega arith

-- what is taken off makes a text shorter
taken : (k : ℕ) (f : List ℕ) → 0 < length (take k f) → length (drop k f) < length f
taken zero f some = absurd (omega arith)
taken (suc k) [] some = absurd (omega arith)
taken (suc k) (b ∷ f) some = omega (arith, length-drop k f)

pub after-within : (t : List ℕ) → length (after_word t) ≤ length t
unfolding after_word
after-within t = omega (arith, length-drop (word_length (from_word t)) (from_word t), blanks-within false t)

pub after-shorter : (t : List ℕ) → has_ended t ≡ false → length (after_word t) < length t
unfolding word after_word
after-shorter t more =
    omega (arith, taken (word_length (from_word t)) (from_word t) (omega (arith, eqb-false (length (word t)) 0 more)), blanks-within false t)

none-ended : (t : List ℕ) → length t ≤ 0 → has_ended t ≡ true
none-ended t h = by-end (has_ended t) refl
  where
    by-end : (b : Bool) → has_ended t ≡ b → b ≡ true
    by-end true e = refl
    by-end false e = absurd (omega (arith, after-shorter t e))

module _ (key : List ℕ) where
  ended : (n : ℕ) (t : List ℕ) → has_ended t ≡ true → words_after_in key n t ≡ []
  unfolding words_after_in
  ended zero t e = refl
  ended (suc n) t e = rw e refl

  -- a text's words are found in as many looks as it has bytes, and so in more
  enough : (n m : ℕ) (t : List ℕ) → length t ≤ n → length t ≤ m → words_after_in key n t ≡ words_after_in key m t
  unfolding words_after_in
  enough zero m t h k = let e = none-ended t h in ended zero t e ∙ sym (ended m t e)
  enough (suc n) zero t h k = let e = none-ended t k in ended (suc n) t e ∙ sym (ended zero t e)
  enough (suc n) (suc m) t h k = by-end (has_ended t) refl (enough n m)
    where
      by-end :
          (b : Bool) → has_ended t ≡ b → ((u : List ℕ) → length u ≤ n → length u ≤ m → words_after_in key n u ≡ words_after_in key m u) →
          words_after_in key (suc n) t ≡ words_after_in key (suc m) t
      by-end true e same = rw e refl
      by-end false e same =
          let one = after-shorter t e in
          let two = after-within (after_word t) in
          rw (e, same (after_word t) (omega (arith, one)) (omega (arith, one)), same (after_word (after_word t)) (omega (arith, one, two)) (omega (arith, one, two)))
          refl

  pub after-end : (t : List ℕ) → has_ended t ≡ true → words_after key t ≡ []
  after-end t e = ended (length t) t e

  -- by its first word, where there is one
  looked : (n : ℕ) (t : List ℕ) → length t ≡ n → has_ended t ≡ false →
      words_after_in key n t ≡ cond (bytes_eq (word t) key) (word (after_word t) ∷ words_after key (after_word (after_word t))) (words_after key (after_word t))
  unfolding words_after_in
  looked zero t h e = absurd (omega (arith, after-shorter t e))
  looked (suc n) t h e =
      let one = after-shorter t e in
      let two = after-within (after_word t) in
      rw (e, enough n (length (after_word t)) (after_word t) (omega (arith, one)) (omega arith), enough n (length (after_word (after_word t))) (after_word (after_word t)) (omega (arith, one, two)) (omega arith))
      refl

  pub after-key : (t : List ℕ) → has_ended t ≡ false → bytes_eq (word t) key ≡ true → words_after key t ≡ word (after_word t) ∷ words_after key (after_word (after_word t))
  after-key t e k = rw k at (looked (length t) t refl e)

  pub after-other : (t : List ℕ) → has_ended t ≡ false → bytes_eq (word t) key ≡ false → words_after key t ≡ words_after key (after_word t)
  after-other t e k = rw k at (looked (length t) t refl e)
