-- What clap's matches answer, by their rows. Assumes nothing.
use Rattle.std.proofs.Common.{◌≡◌, ◌<◌, ◌^◌, refl, sym, ap, subst, Result, Ok, Err, IfSome, ◌∙◌, List, [], ◌∷◌, ℕ, Option, Some, None, option_map, option_and_then, slice_get, find}
use Rattle.std.specs.Borrow.{Bor}
use Rattle.std.specs.Str.{bytes_eq}
use Rattle.std.specs.Str.Parse.{IsNumeral, digits_value, without_leading_plus}
use Rattle.clap.specs.Matches.{first_value, one_text, ReadsOne}
use Rattle.clap.specs.Values.{read_as}
use Rattle.clap.specs.Walk.{row_of, rows_of, texts}
use Rattle.clap.proofs.WalkLemmas.{find_row}
use Rattle.clap.specs.declared.parser.matches.Found.{Found}
use Rattle.clap.specs.declared.parser.matches.MatchedArg.{MatchedArg}
use Rattle.commands.specs.Asked.{text, reading, Counts}

first-text : (xs : List (Bor (List ℕ))) → option_map (λ s. s.now) (slice_get xs 0) ≡ slice_get (texts xs) 0
first-text [] = refl
first-text (x ∷ xs) = refl

abbrev Entry : Type 0
Entry = Bor (List ℕ) × MatchedArg

of-entry :
    (o : Option Entry) →
    option_and_then (λ a. option_map (λ s. s.now) (slice_get a.vals.items 0)) (option_map (λ e. e.1) o) ≡
    option_and_then (λ r. slice_get r.values 0) (option_map row_of o)
of-entry None = refl
of-entry (Some e) = first-text e.1.vals.items

first-reading :
    (m : List ℕ → List ℕ) (xs : List (Bor (List ℕ))) → option_map (λ s. m s.now) (slice_get xs 0) ≡ option_map m (slice_get (texts xs) 0)
first-reading m [] = refl
first-reading m (x ∷ xs) = refl

reading-of-entry :
    (o : Option Entry) →
    option_and_then (λ a. option_map (λ s. read_as a.reading s.now) (slice_get a.vals.items 0)) (option_map (λ e. e.1) o) ≡
    option_and_then (λ r. option_map (read_as r.reading) (slice_get r.values 0)) (option_map row_of o)
reading-of-entry None = refl
reading-of-entry (Some e) = first-reading (read_as e.1.reading) e.1.vals.items

module _ (f : Found) (word : List ℕ) where
  pub value_text : first_value f word ≡ text (rows_of f) word
  value_text = of-entry (find (λ e. bytes_eq e.0.now word) f.entries.items) ∙ ap (option_and_then (λ r. slice_get r.values 0)) (sym (find_row f.entries.items word))

  pub one_reading : one_text f word ≡ reading (rows_of f) word
  one_reading =
      reading-of-entry (find (λ e. bytes_eq e.0.now word) f.entries.items) ∙
      ap (option_and_then (λ r. option_map (read_as r.reading) (slice_get r.values 0))) (sym (find_row f.entries.items word))

-- ---- the number that is read of a text

abbrev Small : List ℕ → Type 0
Small t = IsNumeral 10 (without_leading_plus t) × (digits_value 10 (without_leading_plus t) < 2 ^ 64)

module _ {E : Type 0} (gives : List ℕ → Result ℕ E → Type 0)
    (oks : (t : List ℕ) (n : ℕ) → gives t (Ok n) → Small t × (n ≡ digits_value 10 (without_leading_plus t)))
    (errs : (t : List ℕ) (e : E) → gives t (Err e) → Small t → ⊥) (f : Found) (word : List ℕ) where
  counted-so :
      (r : Option ℕ) (o : Option (List ℕ)) → reading (rows_of f) word ≡ o → (o ≡ None → r ≡ None) →
      ((t : List ℕ) → o ≡ Some t → ReadsOne gives t r) → IfSome r (Counts (rows_of f) word)
  counted-so None o e none value = tt
  counted-so (Some n) None e none value = let h = none refl in absurd (cc)
  counted-so (Some n) (Some t) e none value =
      let P = oks t n (value t refl) in
      record { digits = t; is = e; numeral = P.0.0; small = rw P.1 P.0.1; value = sym P.1 }

  module _ (r : Option ℕ) (none : one_text f word ≡ None → r ≡ None) (value : (t : List ℕ) → one_text f word ≡ Some t → ReadsOne gives t r) where
    pub counted : IfSome r (Counts (rows_of f) word)
    counted = counted-so r (one_text f word) (sym (one_reading f word)) none value

    pub uncounted : r ≡ None → (n : ℕ) → Counts (rows_of f) word n → ⊥
    uncounted e n C =
        let v = value C.digits (one_reading f word ∙ C.is) in
        let w : ReadsOne gives C.digits None = subst (λ (x : Option ℕ). ReadsOne gives C.digits x) e v in
        errs C.digits w.0 w.1 (C.numeral, rw C.value C.small)

-- ---- a command's name, and its rows

module _ {B T R : Type 0} (name : B → T) (rows : B → R) where
  abbrev pub entry : B → T × R
  entry b = (name b, rows b)

  pub named-rows :
      (o : Option B) (n : T) (r : R) → Some n ≡ option_map name o → Some r ≡ option_map {T = T × R} (λ p. p.1) (option_map entry o) →
      option_map entry o ≡ Some (n, r)
  named-rows None n r e f = absurd (cc)
  named-rows (Some b) n r e f =
      let x : n ≡ name b = cc in
      let y : r ≡ rows b = cc in
      rw (x, y)
