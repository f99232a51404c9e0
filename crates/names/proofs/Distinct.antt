-- Whether words are names, one more at a time. Assumes nothing.
use Rattle.std.proofs.Common.{◌≡◌, refl, Bool, true, false, true≢false, sym, ap, not, ◌&&◌, ◌||◌, List, [], ◌∷◌, ◌++◌, ℕ}
use Rattle.std.proofs.Math.Bool.{or-true}
use Rattle.std.proofs.lemmas.Bool.{not-true}
use Rattle.std.proofs.lemmas.List.Folds.{list_any-append}
use Rattle.std.proofs.lemmas.Slice.Eq.{bytes_eq-Decides}
use Rattle.std.specs.Str.{bytes_eq}
use Rattle.model.proofs.Laws.Truth.{same_truth, and-true, and_none, or-false}
use Rattle.std.specs.Borrow.{Bor}
use Rattle.std.specs.List.{list_any}
use Rattle.std.specs.Str.{IsUtf8, is_utf8}
use Rattle.std.proofs.lemmas.Str.{IsUtf8-from_is_utf8, is_utf8-from_IsUtf8}
use Rattle.names.specs.Names.{has_word, is_name}
use Rattle.names.specs.Lists.{texts, is_printed_name, are_names, is_new_name}

same-turned : (v w : List ℕ) → bytes_eq v w ≡ bytes_eq w v
same-turned v w =
    let there = bytes_eq-Decides v w in
    let back = bytes_eq-Decides w v in
    same_truth _ _ (λ e. back.1 (sym (there.0 e))) (λ e. there.1 (sym (back.0 e)))

-- whether a word is among others, told of those before one, of it and of those after it
has-more : (vs ms : List (List ℕ)) (n w : List ℕ) → has_word (vs ++ n ∷ ms) w ≡ (has_word vs w || (bytes_eq n w || has_word ms w))
has-more vs ms n w = list_any-append (λ v. bytes_eq v w) vs (n ∷ ms)

pub one-more : (ns : List (List ℕ)) (n : List ℕ) → are_names ns ≡ true → is_new_name ns n ≡ true → are_names (ns ++ n ∷ []) ≡ true
unfolding are_names
one-more [] n a h = rw (and-true (is_printed_name n) _ h).0 refl
one-more (v ∷ vs) n a h =
    let (first, r) = and-true (is_printed_name v) _ a in
    let (alone, others) = and-true (not (has_word vs v)) _ r in
    let (name, new) = and-true (is_printed_name n) _ h in
    let (differ, absent) = or-false (bytes_eq v n) (has_word vs n) (not-true _ new) in
    let rest = one-more vs n others (rw (name, absent) refl) in
    rw (first, has-more vs [] n v, not-true _ alone, same-turned n v, differ, rest) refl

-- what follows a word that is no new name does not matter
pub no-more : (ns : List (List ℕ)) (n : List ℕ) (ms : List (List ℕ)) → is_new_name ns n ≡ false → are_names (ns ++ n ∷ ms) ≡ false
unfolding are_names
no-more [] n ms h = by-name (is_printed_name n) _ h
  where
    by-name : (p q : Bool) → (p && true) ≡ false → (p && q) ≡ false
    by-name true q h = absurd (true≢false h)
    by-name false q h = refl
no-more (v ∷ vs) n ms h = by-same (bytes_eq v n) refl (no-more vs n ms)
  where
    by-same : (b : Bool) → bytes_eq v n ≡ b → (is_new_name vs n ≡ false → are_names (vs ++ n ∷ ms) ≡ false) → are_names (v ∷ (vs ++ n ∷ ms)) ≡ false
    by-same true e others = rw (has-more vs ms n v, same-turned n v, e, or-true (has_word vs v)) (and_none (is_printed_name v))
    by-same false e others = rw (others (rw e at h), and_none (not (has_word (vs ++ n ∷ ms) v))) (and_none (is_printed_name v))

-- a word among those of a list of the code
among : (items : List (Bor (List ℕ))) (w : List ℕ) → has_word (texts items) w ≡ list_any (λ y. bytes_eq y.now w) items
among [] w = refl
among (y ∷ ys) w = ap (λ (b : Bool). bytes_eq y.now w || b) (among ys w)

pub new-name :
    (items : List (Bor (List ℕ))) (w : List ℕ) → is_name w ≡ true → IsUtf8 w → list_any (λ y. bytes_eq y.now w) items ≡ false → is_new_name (texts items) w ≡ true
new-name items w name printed absent = rw (name, is_utf8-from_IsUtf8 w printed, among items w, absent) refl

pub not-printed : (ns : List (List ℕ)) (w : List ℕ) → (IsUtf8 w → ⊥) → is_new_name ns w ≡ false
not-printed ns w not-text = by-text (is_utf8 w) refl
  where
    by-text : (b : Bool) → is_utf8 w ≡ b → is_new_name ns w ≡ false
    by-text true e = absurd (not-text (IsUtf8-from_is_utf8 w e))
    by-text false e = rw (e, and_none (is_name w)) refl

pub repeated : (items : List (Bor (List ℕ))) (w : List ℕ) → list_any (λ y. bytes_eq y.now w) items ≡ true → is_new_name (texts items) w ≡ false
repeated items w e = rw (among items w, e) (and_none (is_printed_name w))
