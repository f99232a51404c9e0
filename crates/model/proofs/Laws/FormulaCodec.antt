-- Reading a formula is exactly the inverse of writing it. Assumes nothing.
use Rattle.model.proofs.Words.{◌≡◌, refl, sym, ◌∙◌, Bool, true, false, cond, ◌||◌, not, List, [], ◌∷◌, ℕ, zero, suc, ◌+◌, ◌-◌, ◌*◌, ◌≤◌, ◌<◌, arith, length, get_or, eqb, ltb-true, leb-true, eqb-false, not-true, max_formula_bytes, max_depth, Literal, Formula, Formulas, lit, all, any, none, more, got, Reader, and_then, ◌>>=◌, ◌>>◌, done, position, require, bytes_of, is_literal, literal_of, literal_byte, Group, conjunction, disjunction, mark, Head, leaf, group, group_head, head_from, head, members, whole, item, stated, formula, member_count, formula_bytes, member_bytes, encode_formula, Bytes, Declared, Formed, FormedAll, FormulaOk}
use Rattle.model.proofs.Laws.Spans.{Span, nothing, FormulaAt}
use Rattle.model.proofs.Laws.Truth.{and-true}
use Rattle.model.proofs.Laws.Reading.{Gives, gives, reads, tests, empty, first, join, split, span-length, span-end, span-within, byte-gives, small-byte, byte-ok}

-- literals
module _ (facts : ℕ) (most : facts ≤ 64) where
  pub literal-got : (b : ℕ) → is_literal facts b ≡ true → Declared facts (literal_of b) × (literal_byte (literal_of b) ≡ b)
  unfolding is_literal literal_of
  literal-got b h = grind arith

  pub literal-ok : (l : Literal) → Declared facts l → (is_literal facts (literal_byte l) ≡ true) × (literal_of (literal_byte l) ≡ l)
  unfolding is_literal literal_of
  literal-ok l h = grind arith

  -- a group's mark is no literal's byte, and tells the group
  mark-ok :
      (g : Group) →
      (is_literal facts (mark g) ≡ false) × ((eqb (mark g) 0x80 || eqb (mark g) 0x81) ≡ true) ×
      (cond (eqb (mark g) 0x80) conjunction disjunction ≡ g)
  unfolding is_literal
  mark-ok g = grind arith

mark-got : (b : ℕ) → (eqb b 0x80 || eqb b 0x81) ≡ true → mark (cond (eqb b 0x80) conjunction disjunction) ≡ b
mark-got b h = grind arith

-- what a head says
abbrev pub head_bytes : Head → List ℕ
head_bytes (leaf l) = literal_byte l ∷ []
head_bytes (group g n) = mark g ∷ n ∷ []

abbrev pub HeadOk : ℕ → ℕ → ℕ → Head → Type 0
HeadOk facts left parent (leaf l) = Declared facts l
HeadOk facts left parent (group g n) = (0 < left) × (parent ≡ mark g → ⊥) × (n < 256)

module _ (s : List ℕ) (end facts : ℕ) (most : facts ≤ 64) where
  abbrev pub HeadAt : ℕ → ℕ → ℕ → Head → ℕ → Type 0
  HeadAt left parent p h q = HeadOk facts left parent h × Span s end p (head_bytes h) q

  head-gives : Bytes s → (left parent p : ℕ) → Gives (head s end facts left parent p) (HeadAt left parent p)
  unfolding head head_from group_head ◌>>=◌ ◌>>◌ and_then position done
  head-gives sound left parent p = reads (byte-gives 20 p) λ b m r. go b m r (is_literal facts b) refl
    where
      go :
          (b m : ℕ) → Span s end p (b ∷ []) m → (t : Bool) → is_literal facts b ≡ t →
          Gives (cond t (done (leaf (literal_of b))) (group_head s end facts left parent p b) m) (HeadAt left parent p)
      go b m r true t = let (d, i) = literal-got facts most b t in gives (d, rw i r)
      go b m r false t =
          tests _ _ _ _ _ λ t₁.
          tests _ _ _ _ _ λ t₂.
          reads (small-byte sound 20 m) λ n o (v, l).
          let (a, c) = and-true (eqb b 0x80 || eqb b 0x81) (not (eqb b parent)) t₁ in
          let i : mark (cond (eqb b 0x80) conjunction disjunction) ≡ b = mark-got b a in
          gives ((ltb-true 0 left t₂, λ j. eqb-false b parent (not-true _ c) (sym (j ∙ i)), l), rw i (join r v))

  pub head_ok :
      (left parent p : ℕ) (h : Head) (q : ℕ) → HeadOk facts left parent h → Span s end p (head_bytes h) q →
      head s end facts left parent p ≡ got h q
  unfolding head head_from group_head ◌>>=◌ ◌>>◌ and_then position done require
  head_ok left parent p (leaf l) q d r = grind (arith, literal-ok, byte-ok, empty, first)
  head_ok left parent p (group g n) q (d, o, l) r = grind (arith, mark-ok, first, byte-ok, empty)

  -- a formula, where it stands
  abbrev pub ItemAt : ℕ → ℕ → ℕ → Formula → ℕ → Type 0
  ItemAt left parent p f q = Formed facts left parent f × Span s end p (formula_bytes f) q

  -- members, by the law of one member
  members-give :
      (left parent : ℕ) (one : Reader Formula) → ((p : ℕ) → Gives (one p) (ItemAt left parent p)) → (n p : ℕ) →
      Gives (members s end facts one n p) λ ms q.
      FormedAll facts left parent ms × Span s end p (member_bytes ms) q × (member_count ms ≡ n)
  unfolding members ◌>>=◌ and_then done formula_bytes Formed
  members-give left parent one law zero p = gives (tt, nothing refl, refl)
  members-give left parent one law (suc n) p = grind (arith, (members-give left parent one law n), gives, join)

  whole-gives :
      (left parent p : ℕ) (inner : ℕ → Reader Formula) →
      (0 < left → (g : Group) (p : ℕ) → Gives (inner (mark g) p) (ItemAt (left - 1) (mark g) p)) →
      (h : Head) (m : ℕ) → HeadAt left parent p h m → Gives (whole s end facts inner h m) (ItemAt left parent p)
  unfolding whole ◌>>=◌ and_then done formula_bytes Formed
  whole-gives left parent p inner law (leaf l) m (d, r) = gives (d, r)
  whole-gives left parent p inner law (group conjunction n) m ((d, o, l), r) =
      reads (members-give (left - 1) 0x80 (inner 0x80) (law d conjunction) n m) λ ms v (a, b, i).
      gives ((d, o, rw i l, a), rw i (join r b))
  whole-gives left parent p inner law (group disjunction n) m ((d, o, l), r) =
      reads (members-give (left - 1) 0x81 (inner 0x81) (law d disjunction) n m) λ ms v (a, b, i).
      gives ((d, o, rw i l, a), rw i (join r b))

  item-gives : Bytes s → (left parent p : ℕ) → Gives (item s end facts left parent p) (ItemAt left parent p)
  unfolding item ◌>>=◌
  item-gives sound zero parent p = reads (head-gives sound 0 parent p) (whole-gives 0 parent p _ (λ l. absurd (omega arith)))
  item-gives sound (suc left) parent p =
      reads (head-gives sound (suc left) parent p) (whole-gives (suc left) parent p _ (λ l g p. grind (arith, (item-gives sound left (mark g) p))))

  mutual
    unfolding item members whole ◌>>=◌ and_then done formula_bytes Formed

    item_ok :
        (f : Formula) (left parent p q : ℕ) → Formed facts left parent f → Span s end p (formula_bytes f) q →
        item s end facts left parent p ≡ got f q
    item_ok (lit l) zero parent p q d r = rw (head_ok 0 parent p (leaf l) q d r)
    item_ok (lit l) (suc left) parent p q d r = rw (head_ok (suc left) parent p (leaf l) q d r)
    item_ok (all ms) zero parent p q d r = absurd (omega arith)
    item_ok (all ms) (suc left) parent p q (d, o, l, a) r =
        split (0x80 ∷ member_count ms ∷ []) r λ m b c. grind (arith, (head_ok (suc left) parent p (group conjunction (member_count ms)) m), (members-ok ms left 0x80 m q))
    item_ok (any ms) zero parent p q d r = absurd (omega arith)
    item_ok (any ms) (suc left) parent p q (d, o, l, a) r =
        split (0x81 ∷ member_count ms ∷ []) r λ m b c. grind (arith, (head_ok (suc left) parent p (group disjunction (member_count ms)) m), (members-ok ms left 0x81 m q))

    members-ok :
        (ms : Formulas) (left parent p q : ℕ) → FormedAll facts left parent ms → Span s end p (member_bytes ms) q →
        members s end facts (item s end facts left parent) (member_count ms) p ≡ got ms q
    members-ok none left parent p q d r = rw (empty r)
    members-ok (more m ms) left parent p q (d, e) r =
        split (formula_bytes m) r λ o a b. rw (item_ok m left parent p o d a, members-ok ms left parent o q e b)

-- the length field, and the formula whole
module _ (s : List ℕ) where
  stated-gives :
      Bytes s → (p : ℕ) →
      Gives (stated s p) (λ e q. (n : ℕ) × (n ≤ max_formula_bytes) × Span s (length s) p (bytes_of 2 n) q × (e ≡ q + n) × (e ≤ length s))
  unfolding stated ◌>>=◌ ◌>>◌ and_then position done bytes_of
  stated-gives sound p =
      reads (small-byte sound 14 p) λ x m (a, c).
      reads (small-byte sound 14 m) λ y o (b, d).
      tests _ _ _ _ _ λ t.
      tests _ _ _ _ _ λ u. gives (x * 256 + y, grind arith, grind (arith, join), refl, leb-true (o + (x * 256 + y)) (length s) u)

  stated-ok :
      (p q n : ℕ) → 1 ≤ n → n ≤ max_formula_bytes → Span s (length s) p (bytes_of 2 n) q → q + n ≤ length s →
      stated s p ≡ got (q + n) q
  unfolding stated ◌>>=◌ ◌>>◌ and_then position done bytes_of require
  stated-ok p q n l u r b = grind (arith, byte-ok, empty)

  pub formula-gives :
      (facts : ℕ) → facts ≤ 64 → Bytes s → (p : ℕ) →
      Gives (formula s facts p) (λ f q. FormulaOk facts f × Span s (length s) p (encode_formula f) q)
  unfolding formula ◌>>=◌ ◌>>◌ and_then position done encode_formula
  formula-gives facts most sound p =
      reads (stated-gives sound p) λ e m (n, u, r, i, b).
      reads (item-gives s e facts most sound max_depth 0 m) λ g o (d, v).
      tests _ _ _ _ _ λ t. grind (arith, (span-length v), (span-end v), join, (span-within (length s) v))

  pub formula-got :
      (facts : ℕ) → facts ≤ 64 → (p : ℕ) (f : Formula) (q : ℕ) → Bytes s → formula s facts p ≡ got f q →
      FormulaOk facts f × Span s (length s) p (encode_formula f) q
  formula-got facts most p f q sound e = (formula-gives facts most sound p).of f q e

  formula-some : (f : Formula) → 1 ≤ length (formula_bytes f)
  unfolding formula_bytes
  formula-some (lit l) = omega arith
  formula-some (all ms) = omega arith
  formula-some (any ms) = omega arith

  pub formula-ok :
      (facts : ℕ) → facts ≤ 64 → (p : ℕ) (f : Formula) (q : ℕ) → FormulaOk facts f →
      Span s (length s) p (encode_formula f) q → formula s facts p ≡ got f q
  unfolding formula ◌>>=◌ ◌>>◌ and_then position done encode_formula require bytes_of
  formula-ok facts most p f q k r =
      let b : q ≤ length s = span-end r (omega (arith, (first r).0)) in
      split (bytes_of 2 (length (formula_bytes f))) r λ m v w.
      grind (arith, span-length, (stated-ok p m (length (formula_bytes f)) (formula-some f) k.short v), (item_ok s q facts most f max_depth 0 m q k.formed), (span-within q w))

-- ---- the formula that stands at p: where its stated bytes are

pub stated-bytes :
    (s : List ℕ) (facts p : ℕ) (f : Formula) (q : ℕ) → FormulaAt s facts p f q →
    (q ≡ p + 2 + (get_or s p 0 * 256 + get_or s (p + 1) 0)) × Span s (length s) (p + 2) (formula_bytes f) q
unfolding encode_formula bytes_of
stated-bytes s facts p f q at = grind (arith, span-length)
