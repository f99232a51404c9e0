-- A name in a text is read as the name. Assumes nothing.
use Rattle.std.proofs.Common.{◌≡◌, refl, List, ◌∷◌, ◌++◌, ℕ, zero, suc, ◌<◌, arith, true, false}
use Rattle.model.specs.Action.{tabulate}
use Rattle.words.specs.Words.{word, after_word}
use Rattle.names.specs.Names.{has_word, is_name}
use Rattle.make.specs.Parsed.{got, ◌>>=◌, ◌>>◌, and_then, done, here, next, require}
use Rattle.make.specs.SourceText.{new_name}
use Rattle.make.proofs.Words.{Ends, word-first, after-first, name-some, name-one, word-space, after-space}
use Rattle.make.proofs.Index.{other-words}

module _ (w t : List ℕ) (name : is_name w ≡ true) (ends : Ends t) where
  -- a name after a blank
  pub name-word : word (32 ∷ (w ++ t)) ≡ w
  name-word = rw (word-space (w ++ t)) (word-first w t (name-some w name) (name-one w name) ends)

  pub after-name : after_word (32 ∷ (w ++ t)) ≡ t
  after-name = rw (after-space (w ++ t)) (after-first w t (name-some w name) (name-one w name) ends)

  -- a new name
  pub new-name-read : (taken : List (List ℕ)) → has_word taken w ≡ false → new_name taken (32 ∷ (w ++ t)) ≡ got w t
  unfolding new_name ◌>>=◌ ◌>>◌ and_then here next require done
  new-name-read taken free = rw (name-word, after-name, name, free) refl

-- a word is in no list of others
pub in-none : (n : ℕ) (g : ℕ → List ℕ) (w : List ℕ) → ((i : ℕ) → i < n → g i ≡ w → ⊥) → has_word (tabulate n g) w ≡ false
in-none zero g w h = refl
in-none (suc n) g w h =
    rw (other-words (g zero) w (h zero (omega arith))) (in-none n (λ i. g (suc i)) w (λ i l. h (suc i) (omega arith)))
