-- The steps of reading a formula.
use Rattle.std.proofs.Common.{◌≡◌, ℕ, zero, suc, ◌<◌, ◌≤◌, eqb, leb, length, List, ◌∷◌, codes, true, false, Some, None, refl, sym, ◌∙◌, subst, rules, tests}
use Rattle.std.specs.Str.{bytes_eq}
use Rattle.model.specs.Limits.{max_members}
use Rattle.model.specs.Formula.{Literal, Formula, Formulas, lit, all, none}
use Rattle.model.specs.FormulaBytes.{Group, conjunction, disjunction, mark, grouped, member_count, member_bytes, formula_bytes}
use Rattle.words.specs.Words.{word, after_word, left_at}
use Rattle.make.specs.Parsed.{Parsed, bad, got, Parser, and_then, ◌>>=◌, ◌>>◌, done, here, next, require, found}
use Rattle.make.specs.FormulaText.{literal_named, leaf, members, group_word, group, either, item, formula, formula_after}
use Rattle.words.specs.declared.complaint.Complaint.{Complaint}
use Rattle.words.specs.declared.complaint.Complaint.TheVariants.{UnknownFact, NoBracket, SameKind, TooDeep, FormulaTooLong}
use Rattle.make.proofs.Parsing.{mapped}

module _ (facts : List (List ℕ)) where
  -- ---- a literal

  pub leaf-good :
      (t w u : List ℕ) (l : Literal) → w ≡ word t → u ≡ after_word t → literal_named facts w ≡ Some l → leaf facts t ≡ got (lit l) u
  unfolding leaf ◌>>=◌ and_then here next found done
  leaf-good t w u l first rest named =
      let e : literal_named facts (word t) ≡ Some l = cc in
      rw (rest, e) refl

  pub leaf-bad : (t w : List ℕ) → w ≡ word t → literal_named facts w ≡ None → leaf facts t ≡ bad UnknownFact (left_at t)
  unfolding leaf ◌>>=◌ and_then here next found done
  leaf-bad t w first named =
      let e : literal_named facts (word t) ≡ None = cc in
      rw e refl

  -- ---- a group

  -- past its word
  unfoldable bracketed : Group → Parser Formula → Parser Formula
  bracketed g inner u = and_then (require (bytes_eq (word u) (codes "(")) NoBracket (left_at u) (after_word u)) (λ x. members facts inner max_members >>= (λ ms. done (grouped g ms)))

  group-word : (g : Group) (inner : Parser Formula) (t : List ℕ) → group facts g 0 inner t ≡ bracketed g inner (after_word t)
  unfolding group bracketed ◌>>=◌ ◌>>◌ and_then here next require done
  group-word conjunction inner t = refl
  group-word disjunction inner t = refl

  pub group-bare :
      (g : Group) (inner : Parser Formula) (t u w : List ℕ) → u ≡ after_word t → w ≡ word u → bytes_eq w (codes "(") ≡ false →
      group facts g 0 inner t ≡ bad NoBracket (left_at u)
  unfolding bracketed and_then require
  group-bare g inner t u w first second bare =
      let e : bytes_eq (word u) (codes "(") ≡ false = subst (λ x. bytes_eq x (codes "(") ≡ false) second bare in
      group-word g inner t ∙ subst (λ x. bracketed g inner x ≡ bad NoBracket (left_at u)) first (rw e refl)

  pub group-members :
      (g : Group) (inner : Parser Formula) (t u w v : List ℕ) → u ≡ after_word t → w ≡ word u → v ≡ after_word u → bytes_eq w (codes "(") ≡ true →
      group facts g 0 inner t ≡ mapped (grouped g) (members facts inner max_members v)
  unfolding bracketed and_then require ◌>>=◌ done
  group-members g inner t u w v first second rest bracket =
      let e : bytes_eq (word u) (codes "(") ≡ true = subst (λ x. bytes_eq x (codes "(") ≡ true) second bracket in
      group-word g inner t ∙ subst (λ x. bracketed g inner x ≡ mapped (grouped g) (members facts inner max_members v)) first (rw (e, rest) (last (members facts inner max_members (after_word u))))
    where
      last : (r : Parsed Formulas) → and_then r (λ ms. done (grouped g ms)) ≡ mapped (grouped g) r
      last (bad c q) = refl
      last (got a x) = refl

  -- ---- either

  pub item-leaf : (left parent : ℕ) (t w : List ℕ) → w ≡ word t → None ≡ group_word w → item facts left parent t ≡ leaf facts t
  unfolding item either
  item-leaf zero parent t w first plain =
      let e : group_word (word t) ≡ None = subst (λ x. group_word x ≡ None) first (sym plain) in
      rw e refl
  item-leaf (suc left) parent t w first plain =
      let e : group_word (word t) ≡ None = subst (λ x. group_word x ≡ None) first (sym plain) in
      rw e refl

  module _ (g : Group) (parent : ℕ) (t w : List ℕ) (first : w ≡ word t) (begins : Some g ≡ group_word w) where
    begun : group_word (word t) ≡ Some g
    begun = subst (λ x. group_word x ≡ Some g) first (sym begins)

    pub item-deep : (left : ℕ) → left ≡ 0 → item facts left parent t ≡ bad TooDeep (left_at t)
    unfolding item either
    item-deep zero none_left = rw begun refl
    item-deep (suc left) none_left = absurd cc

    pub item-same : (left : ℕ) → (left ≡ 0 → ⊥) → mark g ≡ parent → item facts left parent t ≡ bad SameKind (left_at t)
    unfolding item either group ◌>>=◌ ◌>>◌ and_then here next require done
    item-same zero some_left same = absurd (some_left refl)
    item-same (suc left) some_left same = rw begun (rw (same_kind g same) refl)
      where
        same_kind : (h : Group) → mark h ≡ parent → eqb (mark h) parent ≡ true
        same_kind h e = search (tests, rules)

    pub item-group : (left k : ℕ) → left ≡ suc k → (mark g ≡ parent → ⊥) → item facts left parent t ≡ group facts g 0 (item facts k (mark g)) t
    unfolding item either group ◌>>=◌ ◌>>◌ and_then here next require done
    item-group left k more other =
        subst (λ x. item facts x parent t ≡ group facts g 0 (item facts k (mark g)) t) (sym more) (rw begun (anyhow g other))
      where
        anyhow : (h : Group) → (mark h ≡ parent → ⊥) → group facts h parent (item facts k (mark h)) t ≡ group facts h 0 (item facts k (mark h)) t
        anyhow conjunction e =
            let f : eqb 0x80 parent ≡ false = search (tests, rules) in
            rw f refl
        anyhow disjunction e =
            let f : eqb 0x81 parent ≡ false = search (tests, rules) in
            rw f refl

  -- ---- a whole formula

  module _ (t u : List ℕ) (f : Formula) (read : item facts 8 0 t ≡ got f u) where
    pub formula-good : length (formula_bytes f) ≤ 1024 → formula facts t ≡ got f u
    unfolding formula ◌>>=◌ ◌>>◌ and_then here require done
    formula-good short =
        let e : leb (length (formula_bytes f)) 1024 ≡ true = search (tests, rules) in
        rw read (rw e refl)

    pub formula-long : 1024 < length (formula_bytes f) → formula facts t ≡ bad FormulaTooLong (left_at t)
    unfolding formula ◌>>=◌ ◌>>◌ and_then here require done
    formula-long long =
        let e : leb (length (formula_bytes f)) 1024 ≡ false = search (tests, rules) in
        rw read (rw e refl)

  pub formula-bad : (t : List ℕ) (c : Complaint) (q : ℕ) → item facts 8 0 t ≡ bad c q → formula facts t ≡ bad c q
  unfolding formula ◌>>=◌ ◌>>◌ and_then here require done
  formula-bad t c q wrong = rw wrong refl

  module _ (key t w : List ℕ) (first : w ≡ word t) where
    pub after-key : (u : List ℕ) → u ≡ after_word t → bytes_eq w key ≡ true → formula_after facts key t ≡ formula facts u
    unfolding formula_after
    after-key u rest here =
        let e : bytes_eq (word t) key ≡ true = subst (λ x. bytes_eq x key ≡ true) first here in
        rw (e, rest) refl

    pub no-key : bytes_eq w key ≡ false → formula_after facts key t ≡ got (all none) t
    unfolding formula_after
    no-key other =
        let e : bytes_eq (word t) key ≡ false = subst (λ x. bytes_eq x key ≡ false) first other in
        rw e refl

-- a group's bytes are its mark, its count of members, and theirs
pub grouped-bytes : (g : Group) (ms : Formulas) → formula_bytes (grouped g ms) ≡ mark g ∷ member_count ms ∷ member_bytes ms
unfolding formula_bytes
grouped-bytes conjunction ms = refl
grouped-bytes disjunction ms = refl
