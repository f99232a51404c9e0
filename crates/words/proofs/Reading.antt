-- A text, byte by byte. Assumes nothing.
use Rattle.std.proofs.Common.{◌≡◌, refl, Bool, true, false, cond, List, [], ◌∷◌, ℕ, suc, ◌≤◌, arith, length}
use Rattle.words.specs.Words.{is_bracket, ends_word, past_blanks, run_length, word_length}

within : (b : Bool) (n m : ℕ) → n ≤ m → cond b 0 (suc n) ≤ suc m
within true n m h = omega arith
within false n m h = omega arith

pub run_within : (t : List ℕ) → run_length t ≤ length t
unfolding run_length
run_within [] = omega arith
run_within (b ∷ t) = within (ends_word b) _ _ (run_within t)

one_within : (b : Bool) (n m : ℕ) → n ≤ suc m → cond b 1 n ≤ suc m
one_within true n m h = omega arith
one_within false n m h = h

pub word_within : (t : List ℕ) → word_length t ≤ length t
unfolding word_length
word_within [] = omega arith
word_within (b ∷ t) = one_within (is_bracket b) _ _ (run_within (b ∷ t))

-- of nothing left nothing is left
pub run_none : (t : List ℕ) → length t ≡ 0 → run_length t ≡ 0
unfolding run_length
run_none [] h = refl
run_none (b ∷ t) h = absurd (omega arith)

pub blanks_none : (inside : Bool) (t : List ℕ) → length t ≡ 0 → past_blanks inside t ≡ t
unfolding past_blanks
blanks_none inside [] h = refl
blanks_none inside (b ∷ t) h = absurd (omega arith)
