-- A formula's text is read as the formula. Assumes nothing.
use Rattle.std.proofs.Common.{◌≡◌, refl, sym, ap, ◌∙◌, true, false, not, eqb, List, [], ◌∷◌, ◌++◌, append_assoc, ℕ, zero, suc, ◌-◌, ◌<◌, ◌≤◌, le-leb, length, arith, inl, inr, Option, Some, None}
use Rattle.std.specs.Prelude.{codes}
use Rattle.std.specs.Str.{bytes_eq}
use Rattle.std.proofs.lemmas.Bool.{ne_eqb, cases_Bool, false≢true}
use Rattle.model.specs.Limits.{max_formula_bytes, max_members, max_depth}
use Rattle.model.specs.Formula.{Literal, fact, denial, Formula, Formulas, lit, all, any, none, more}
use Rattle.model.specs.Action.{tabulate}
use Rattle.model.specs.FormulaBytes.{Group, conjunction, disjunction, mark, grouped, member_count, formula_bytes}
use Rattle.model.specs.WellFormed.{Declared, Formed, FormedAll, FormulaOk}
use Rattle.words.specs.Words.{word, after_word, from_word, past_blanks, word_length, run_length}
use Rattle.names.specs.Names.{Names, Named, denial_mark, is_one_word, is_name}
use Rattle.names.specs.Texts.{fact_name, literal_text, formula_text, members_text}
use Rattle.make.specs.Parsed.{got, bad, Parser, and_then, ◌>>=◌, ◌>>◌, done, here, next, require, found}
use Rattle.make.specs.FormulaText.{index_of, group_word, literal_named, leaf, members, group, either, item, formula}
use Rattle.words.specs.declared.complaint.Complaint.TheVariants.{TooDeep}
use Rattle.make.proofs.Words.{Ends, word-first, after-first, name-some, name-one, same-word, from-space, word-space, after-space, word-closing, after-closing, word-opening, after-opening}
use Rattle.make.proofs.Index.{index-named, other-words}
use Rattle.make.proofs.Keywords.{name-no_keyword, name-no_denial}

-- a name begins no group
name-alone : (w : List ℕ) → is_name w ≡ true → group_word w ≡ None
unfolding group_word
name-alone w h =
    let all-not : bytes_eq w (codes "all") ≡ false = name-no_keyword w h 10 (omega arith) in
    let any-not : bytes_eq w (codes "any") ≡ false = name-no_keyword w h 11 (omega arith) in
    rw (all-not, any-not)

denial-alone : (w : List ℕ) → group_word (denial_mark ∷ w) ≡ None
unfolding group_word
denial-alone w = refl

-- a denial's mark is of its word
marked-one : (w : List ℕ) → is_one_word w ≡ true → is_one_word (denial_mark ∷ w) ≡ true
marked-one w h = h

-- what is read at a text is read at one that has the same first word on
module _ (L : List (List ℕ)) (u v : List ℕ) (e : from_word u ≡ from_word v) where
  leaf-same : leaf L u ≡ leaf L v
  unfolding leaf ◌>>=◌ and_then here next word after_word
  leaf-same = rw e

  group-same : (g : Group) (parent : ℕ) (inner : Parser Formula) → group L g parent inner u ≡ group L g parent inner v
  unfolding group ◌>>=◌ ◌>>◌ and_then here next word after_word require
  group-same g parent inner = elim (cases_Bool (not (eqb (mark g) parent))) [ inl y ↦ rw (y, e) | inr n ↦ rw (n, e) ]

  either-same : (inner : Group → Parser Formula) → ((g : Group) → inner g u ≡ inner g v) → (o : Option Group) → either L inner o u ≡ either L inner o v
  unfolding either
  either-same inner h None = leaf-same
  either-same inner h (Some g) = h g

  item-same : (left parent : ℕ) → item L left parent u ≡ item L left parent v
  unfolding item
  item-same zero parent = rw (same-word u v e) (either-same _ (λ g. ap (bad TooDeep) (ap length e)) (group_word (word v)))
  item-same (suc left) parent = rw (same-word u v e) (either-same _ (λ g. group-same g parent (item L left (mark g))) (group_word (word v)))

  formula-same : formula L u ≡ formula L v
  unfolding formula ◌>>=◌ ◌>>◌ and_then here
  formula-same = rw (e, item-same max_depth 0)

module _ (L : List (List ℕ)) (t : List ℕ) where
  pub item-space : (left parent : ℕ) → item L left parent (32 ∷ t) ≡ item L left parent t
  item-space left parent = item-same L (32 ∷ t) t (from-space t) left parent

  pub formula-space : formula L (32 ∷ t) ≡ formula L t
  formula-space = formula-same L (32 ∷ t) t (from-space t)

-- where no group begins, a literal is read
item-alone : (L : List (List ℕ)) (left parent : ℕ) (u : List ℕ) → group_word (word u) ≡ None → item L left parent u ≡ leaf L u
unfolding item either
item-alone L zero parent u h = rw h
item-alone L (suc left) parent u h = rw h

-- a group is read where its members are read
group-read :
    (L : List (List ℕ)) (g : Group) (parent : ℕ) (inner : Parser Formula) (u v : List ℕ) (ms : Formulas) (t : List ℕ) →
    (parent ≡ mark g → ⊥) → after_word u ≡ 40 ∷ v → members L inner max_members v ≡ got ms t → group L g parent inner u ≡ got (grouped g ms) t
unfolding group ◌>>=◌ ◌>>◌ and_then here next require done
group-read L g parent inner u v ms t n a r =
    let k : eqb (mark g) parent ≡ false = ne_eqb (mark g) parent (λ e. n (sym e)) in
    rw (k, a, word-opening, after-opening, r)

-- members up to the closing bracket
module _ (L : List (List ℕ)) (one : Parser Formula) where
  members-end : (n : ℕ) (t : List ℕ) → members L one n (32 ∷ (41 ∷ t)) ≡ got none t
  unfolding members
  members-end zero t = rw (word-space, word-closing, after-space, after-closing)
  members-end (suc n) t = rw (word-space, word-closing, after-space, after-closing)

  members-next :
      (n : ℕ) (u v t : List ℕ) (m : Formula) (ms : Formulas) → bytes_eq (word u) (codes ")") ≡ false → one u ≡ got m v →
      members L one n v ≡ got ms t → members L one (suc n) u ≡ got (more m ms) t
  unfolding members ◌>>=◌ and_then done
  members-next n u v t m ms b o r = rw (b, o, r)

-- a word is no bracket
one-no_bracket : (w : List ℕ) → is_one_word w ≡ true → bytes_eq w (codes ")") ≡ false
one-no_bracket w h = other-words w (codes ")") (λ e. let o = rw e at h in false≢true o)

-- the names of the first facts, in their order
abbrev pub fact_names : Names → ℕ → List (List ℕ)
fact_names N facts = tabulate facts (fact_name N)

-- the texts of literals
module _ (N : Names) (facts : ℕ) (named : Named facts N.facts) where
  abbrev names : List (List ℕ)
  names = fact_names N facts

  record IsLiteral (w : List ℕ) (l : Literal) : Type 0 where
    some : 0 < length w
    one : is_one_word w ≡ true
    alone : group_word w ≡ None
    says : literal_named names w ≡ Some l

  name-literal : (w : List ℕ) (f : ℕ) → is_name w ≡ true → index_of names w ≡ Some f → literal_named names w ≡ Some (fact f)
  name-literal [] f h i = cc
  name-literal (b ∷ w) f h i = rw (name-no_denial b w h, i)

  literal-is : (l : Literal) → Declared facts l → IsLiteral (literal_text N l) l
  literal-is (fact f) d =
      let h = named.sound f d in
      record {
        some = name-some (fact_name N f) h;
        one = name-one (fact_name N f) h;
        alone = name-alone (fact_name N f) h;
        says = name-literal (fact_name N f) f h (index-named facts N.facts named f d);
      }
  literal-is (denial f) d =
      record {
        some = omega arith;
        one = marked-one (fact_name N f) (name-one (fact_name N f) (named.sound f d));
        alone = denial-alone (fact_name N f);
        says = rw (index-named facts N.facts named f d);
      }

  literal-read : (w : List ℕ) (l : Literal) (t : List ℕ) → IsLiteral w l → Ends t → leaf names (w ++ t) ≡ got (lit l) t
  unfolding leaf ◌>>=◌ and_then here next found done
  literal-read w l t h e =
      let first = word-first w t h.some h.one e in
      let rest = after-first w t h.some h.one e in
      let says = h.says in
      rw (first, rest, says)

  item-literal :
      (left parent : ℕ) (w : List ℕ) (l : Literal) (t : List ℕ) → IsLiteral w l → Ends t → item names left parent (w ++ t) ≡ got (lit l) t
  item-literal left parent w l t h e =
      let first = word-first w t h.some h.one e in
      let alone = h.alone in
      item-alone names left parent (w ++ t) (rw first alone) ∙ literal-read w l t h e

  -- what begins a group
  group-begins :
      (g : Group) (ms : Formulas) (t : List ℕ) →
      (group_word (word (formula_text N (grouped g ms) ++ t)) ≡ Some g) × (after_word (formula_text N (grouped g ms) ++ t) ≡ 40 ∷ (members_text N ms ++ t))
  unfolding formula_text word after_word past_blanks word_length run_length group_word
  group-begins conjunction ms t = (refl, refl)
  group-begins disjunction ms t = (refl, refl)

  item-group :
      (g : Group) (left parent : ℕ) (ms : Formulas) (t : List ℕ) → (parent ≡ mark g → ⊥) →
      members names (item names left (mark g)) max_members (members_text N ms ++ t) ≡ got ms t →
      item names (suc left) parent (formula_text N (grouped g ms) ++ t) ≡ got (grouped g ms) t
  unfolding item either
  item-group g left parent ms t n r =
      let (begins, rest) = group-begins g ms t in
      rw begins (group-read names g parent (item names left (mark g)) (formula_text N (grouped g ms) ++ t) (members_text N ms ++ t) ms t n rest r)

  -- what stands after a member ends its word
  members-end_word : (ms : Formulas) (t : List ℕ) → Ends (members_text N ms ++ t)
  unfolding members_text
  members-end_word none t = refl
  members-end_word (more m ms) t = refl

  -- no member's text begins with a closing bracket
  member-begins : (f : Formula) (left parent : ℕ) (t : List ℕ) → Formed facts left parent f → Ends t → bytes_eq (word (formula_text N f ++ t)) (codes ")") ≡ false
  unfolding Formed formula_text word past_blanks word_length run_length
  member-begins (lit l) left parent t d e =
      let h = literal-is l d in
      let first = word-first (literal_text N l) t h.some h.one e in
      rw first (one-no_bracket (literal_text N l) h.one)
  member-begins (all ms) left parent t d e = refl
  member-begins (any ms) left parent t d e = refl

  -- the text of a formula, and of members, is read as what it shows, whatever text follows that ends its last word
  mutual
    unfolding Formed formula_text

    pub item-read :
        (f : Formula) (left parent : ℕ) (t : List ℕ) → Formed facts left parent f → Ends t → item names left parent (formula_text N f ++ t) ≡ got f t
    item-read (lit l) left parent t d e = item-literal left parent (literal_text N l) l t (literal-is l d) e
    item-read (all ms) zero parent t d e = absurd (omega arith)
    item-read (all ms) (suc left) parent t (d, o, l, a) e =
        let same : suc left - 1 ≡ left = omega arith in
        item-group conjunction left parent ms t o (members-read ms left 0x80 max_members t (rw same at a) (omega arith))
    item-read (any ms) zero parent t d e = absurd (omega arith)
    item-read (any ms) (suc left) parent t (d, o, l, a) e =
        let same : suc left - 1 ≡ left = omega arith in
        item-group disjunction left parent ms t o (members-read ms left 0x81 max_members t (rw same at a) (omega arith))

    pub members-read :
        (ms : Formulas) (left parent n : ℕ) (t : List ℕ) → FormedAll facts left parent ms → member_count ms ≤ n →
        members names (item names left parent) n (members_text N ms ++ t) ≡ got ms t
    members-read none left parent n t d l = members-end names (item names left parent) n t
    members-read (more m ms) left parent zero t d l = absurd (omega arith)
    members-read (more m ms) left parent (suc n) t (d, a) l =
        let rest = members_text N ms ++ t in
        let e = members-end_word ms t in
        rw append_assoc
        (members-next names (item names left parent) n (32 ∷ (formula_text N m ++ rest)) rest t m ms
        (rw word-space (member-begins m left parent rest d e))
        (item-space names (formula_text N m ++ rest) left parent ∙ item-read m left parent rest d e)
        (members-read ms left parent n t a (omega arith)))

  pub formula-read : (f : Formula) (t : List ℕ) → FormulaOk facts f → Ends t → formula names (formula_text N f ++ t) ≡ got f t
  unfolding formula ◌>>=◌ ◌>>◌ and_then here require done
  formula-read f t ok e =
      let read = item-read f max_depth 0 t ok.formed e in
      let short = le-leb (length (formula_bytes f)) max_formula_bytes ok.short in
      rw (read, short)

  -- and so with a space before
  pub formula-read_spaced : (f : Formula) (t : List ℕ) → FormulaOk facts f → Ends t → formula names (32 ∷ (formula_text N f ++ t)) ≡ got f t
  formula-read_spaced f t ok e = formula-space names (formula_text N f ++ t) ∙ formula-read f t ok e
