-- Names are no keywords, and begin no denial. Assumes nothing.
use Rattle.std.proofs.Common.{◌≡◌, true, false, not, eqb, List, [], ◌∷◌, ℕ, zero, suc, ◌<◌, length, get_or, arith}
use Rattle.std.specs.Str.{bytes_eq}
use Rattle.std.proofs.lemmas.Bool.{and_parts, or_parts, not-true}
use Rattle.names.specs.Names.{keywords, denial_mark, has_word, is_one_word, is_name}
use Rattle.make.proofs.Index.{words-turned}

no-word : (vs : List (List ℕ)) (w : List ℕ) → has_word vs w ≡ false → (i : ℕ) → i < length vs → bytes_eq (get_or vs i []) w ≡ false
no-word [] w h i l = absurd (omega arith)
no-word (v ∷ vs) w h zero l = (or_parts (bytes_eq v w) (has_word vs w) h).0
no-word (v ∷ vs) w h (suc i) l = no-word vs w (or_parts (bytes_eq v w) (has_word vs w) h).1 i (omega arith)

-- the keywords are counted from 0, in their order
pub name-no_keyword : (w : List ℕ) → is_name w ≡ true → (i : ℕ) → i < length keywords → bytes_eq w (get_or keywords i []) ≡ false
name-no_keyword [] h i l = cc
name-no_keyword (b ∷ w) h i l =
    let r = (and_parts _ _ (and_parts _ _ h).1).1 in
    let (_, k) = and_parts (is_one_word (b ∷ w)) (not (has_word keywords (b ∷ w))) r in
    words-turned (get_or keywords i []) (b ∷ w) (no-word keywords (b ∷ w) (not-true (has_word keywords (b ∷ w)) k) i l)

pub name-no_denial : (b : ℕ) (w : List ℕ) → is_name (b ∷ w) ≡ true → eqb b denial_mark ≡ false
name-no_denial b w h = not-true _ (and_parts _ _ h).0
