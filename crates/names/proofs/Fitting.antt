-- Names that fit a problem are names of its facts and actions. Assumes nothing.
use Rattle.std.proofs.Common.{◌≡◌, refl, ap, sym, ◌∙◌, true, false, true≢false, not, ◌&&◌, List, [], ◌∷◌, ℕ, zero, suc, ◌<◌, length, get_or, eqb, eqb-true, arith, decimal}
use Rattle.std.proofs.lemmas.Bool.{not-true}
use Rattle.std.proofs.lemmas.Slice.Eq.{bytes_eq-Decides}
use Rattle.std.specs.Str.{bytes_eq}
use Rattle.model.proofs.Laws.Truth.{and-true, or-false}
use Rattle.names.specs.Names.{Names, Named, NamesOk, has_word, is_name}
use Rattle.names.specs.Lists.{is_printed_name, are_names, fit}

each-named : (ns : List (List ℕ)) (d : List ℕ) → are_names ns ≡ true → (i : ℕ) → i < length ns → is_name (get_or ns i d) ≡ true
unfolding are_names
each-named [] d a i l = absurd (omega arith)
each-named (v ∷ vs) d a zero l = (and-true (is_name v) _ (and-true (is_printed_name v) _ a).0).0
each-named (v ∷ vs) d a (suc i) l = each-named vs d (and-true (not (has_word vs v)) _ (and-true (is_printed_name v) _ a).1).1 i (omega arith)

-- a word is none of those that it is not among
absent : (vs : List (List ℕ)) (w d : List ℕ) → has_word vs w ≡ false → (i : ℕ) → i < length vs → get_or vs i d ≡ w → ⊥
absent [] w d h i l e = omega arith
absent (v ∷ vs) w d h zero l e = true≢false (sym ((bytes_eq-Decides v w).1 e) ∙ (or-false (bytes_eq v w) (has_word vs w) h).0)
absent (v ∷ vs) w d h (suc i) l e = absent vs w d (or-false (bytes_eq v w) (has_word vs w) h).1 i (omega arith) e

distinct-named :
    (ns : List (List ℕ)) (c d : List ℕ) → are_names ns ≡ true → (i j : ℕ) → i < length ns → j < length ns → get_or ns i c ≡ get_or ns j d → i ≡ j
unfolding are_names
distinct-named [] c d a i j l m e = absurd (omega arith)
distinct-named (v ∷ vs) c d a i j l m e =
    let (new, rest) = and-true (not (has_word vs v)) _ (and-true (is_printed_name v) _ a).1 in
    by-place (not-true _ new) (distinct-named vs c d rest) i j l m e
  where
    by-place :
        has_word vs v ≡ false → ((i j : ℕ) → i < length vs → j < length vs → get_or vs i c ≡ get_or vs j d → i ≡ j) →
        (i j : ℕ) → i < suc (length vs) → j < suc (length vs) → get_or (v ∷ vs) i c ≡ get_or (v ∷ vs) j d → i ≡ j
    by-place new rest zero zero l m e = refl
    by-place new rest zero (suc j) l m e = absurd (absent vs v d new j (omega arith) (sym e))
    by-place new rest (suc i) zero l m e = absurd (absent vs v c new i (omega arith) e)
    by-place new rest (suc i) (suc j) l m e = ap suc (rest i j (omega arith) (omega arith) e)

named : (ns : List (List ℕ)) (n : ℕ) → (eqb (length ns) n && are_names ns) ≡ true → Named n ns
named ns n h =
    let (count, a) = and-true (eqb (length ns) n) _ h in
    let so = eqb-true (length ns) n count in
    record {
      sound = λ i l. each-named ns (decimal i) a i (omega (arith, so, l));
      distinct = λ i j l m e. distinct-named ns (decimal i) (decimal j) a i j (omega (arith, so, l)) (omega (arith, so, m)) e;
    }

pub fit_named : (N : Names) (facts actions : ℕ) → fit N facts actions ≡ true → NamesOk N facts actions
fit_named N facts actions h =
    let (f, a) = and-true (eqb (length N.facts) facts && are_names N.facts) _ h in
    record { facts = named N.facts facts f; actions = named N.actions actions a }
