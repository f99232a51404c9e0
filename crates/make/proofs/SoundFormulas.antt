-- A formula or an effect that a text says is a sound one, over as many facts as there are names. Assumes nothing.
use Rattle.std.proofs.Common.{◌≡◌, refl, sym, Bool, true, false, cond, not, List, [], ◌∷◌, ℕ, zero, suc, ◌-◌, ◌≤◌, ◌<◌, length, eqb, Option, Some, None, codes, arith, leb-true, add-one}
use Rattle.std.proofs.lemmas.Bool.{eqb-false, not-true}
use Rattle.std.specs.Str.{bytes_eq}
use Rattle.model.specs.Limits.{max_members, max_depth}
use Rattle.model.specs.Formula.{Literal, fact, denial, Formula, Formulas, all, none}
use Rattle.model.specs.Action.{Effect}
use Rattle.model.specs.FormulaBytes.{Group, conjunction, disjunction, mark, grouped, literal_byte, member_count, formula_bytes}
use Rattle.model.specs.WellFormed.{Declared, Formed, FormedAll, FormulaOk, EffectsOk}
use Rattle.words.specs.Words.{word}
use Rattle.names.specs.Names.{denial_mark}
use Rattle.make.specs.Parsed.{Parser, and_then, ◌>>=◌, ◌>>◌, done, here, next}
use Rattle.make.specs.FormulaText.{one_more, as_literal, index_of, literal_named, leaf, members, group, either, item, formula, formula_after, verb, effect, effects_from, effects}
use Rattle.make.proofs.SoundParts.{Gives, gives, fails, reads, tests, finds, either-way}

-- a name that is found is one of those there are
pub index_is_below : (names : List (List ℕ)) (w : List ℕ) (i : ℕ) → index_of names w ≡ Some i → i < length names
unfolding index_of
index_is_below [] w i e = absurd (grind arith)
index_is_below (n ∷ ns) w i e = by-test (bytes_eq n w) (index_of ns w) (index_is_below ns w) e
  where
    by-test :
        (same : Bool) (o : Option ℕ) → ((j : ℕ) → o ≡ Some j → j < length ns) → cond same (Some 0) (one_more o) ≡ Some i →
        i < suc (length ns)
    by-test true o f h = grind arith
    by-test false None f h = absurd (grind arith)
    by-test false (Some j) f h = grind (arith, (f j refl))

module _ (facts : List (List ℕ)) where
  -- what makes literals of declared facts
  abbrev pub Makes : (ℕ → Literal) → Type 0
  Makes literal = (f : ℕ) → f < length facts → Declared (length facts) (literal f)

  as-literal-declared :
      (literal : ℕ → Literal) → Makes literal → (w : List ℕ) (l : Literal) → as_literal literal (index_of facts w) ≡ Some l → Declared (length facts) l
  as-literal-declared literal k w l e = by-index (index_of facts w) (index_is_below facts w) e
    where
      by-index :
          (o : Option ℕ) → ((j : ℕ) → o ≡ Some j → j < length facts) → as_literal literal o ≡ Some l → Declared (length facts) l
      by-index None f h = absurd (grind arith)
      by-index (Some j) f h =
          let same : literal j ≡ l = grind arith in
          rw (← same) (k j (f j refl))

  -- a literal that is named is one of a declared fact
  pub literal_is_declared : (w : List ℕ) (l : Literal) → literal_named facts w ≡ Some l → Declared (length facts) l
  literal_is_declared [] l e = absurd (grind arith)
  literal_is_declared (b ∷ t) l e = by-mark (eqb b denial_mark) e
    where
      by-mark :
          (marked : Bool) → cond marked (as_literal denial (index_of facts t)) (as_literal fact (index_of facts (b ∷ t))) ≡ Some l →
          Declared (length facts) l
      by-mark true h = as-literal-declared denial (λ f k. k) t l h
      by-mark false h = as-literal-declared fact (λ f k. k) (b ∷ t) l h

  -- a literal may stand in any group
  pub leaf_is_formed : (left parent : ℕ) (t : List ℕ) → Gives (leaf facts t) (Formed (length facts) left parent)
  unfolding leaf ◌>>=◌ and_then here next done Formed
  leaf_is_formed left parent t = finds _ _ _ _ _ λ l e. gives (literal_is_declared (word t) l e)

  -- what is asked of the members of a group: that they may stand in it, and that there are so many at most
  abbrev pub MembersOk : ℕ → ℕ → ℕ → Formulas → Type 0
  MembersOk left parent n ms = FormedAll (length facts) left parent ms × (member_count ms ≤ n)

  -- members, by the law of one member
  pub members_are_formed :
      (left parent : ℕ) (one : Parser Formula) → ((t : List ℕ) → Gives (one t) (Formed (length facts) left parent)) → (n : ℕ) (t : List ℕ) →
      Gives (members facts one n t) (MembersOk left parent n)
  unfolding members ◌>>=◌ and_then done Formed
  members_are_formed left parent one law zero t = either-way (bytes_eq (word t) (codes ")")) _ _ (λ e. gives (tt, omega arith)) (λ e. fails)
  members_are_formed left parent one law (suc n) t =
      either-way (bytes_eq (word t) (codes ")")) _ _ (λ e. gives (tt, omega arith)) λ e.
      reads (law t) λ m u a.
      reads (members_are_formed left parent one law n u) λ ms v (b, c). gives ((a, b), omega arith)

  one-less : (n : ℕ) → suc n - 1 ≡ n
  one-less n = omega arith

  -- the group of these members may stand in a group of the other kind
  grouped-formed :
      (g : Group) (left parent : ℕ) (ms : Formulas) → not (eqb (mark g) parent) ≡ true → MembersOk left (mark g) max_members ms →
      Formed (length facts) (suc left) parent (grouped g ms)
  unfolding Formed
  grouped-formed conjunction left parent ms e (a, b) = (omega arith, λ i. eqb-false 0x80 parent (not-true _ e) (sym i), omega arith, rw (one-less left) a)
  grouped-formed disjunction left parent ms e (a, b) = (omega arith, λ i. eqb-false 0x81 parent (not-true _ e) (sym i), omega arith, rw (one-less left) a)

  -- a group, by the law of what stands in it
  pub group_is_formed :
      (g : Group) (left parent : ℕ) (inner : Parser Formula) → ((t : List ℕ) → Gives (inner t) (Formed (length facts) left (mark g))) →
      (t : List ℕ) → Gives (group facts g parent inner t) (Formed (length facts) (suc left) parent)
  unfolding group ◌>>=◌ ◌>>◌ and_then here next done
  group_is_formed g left parent inner law t =
      tests _ _ _ _ _ λ e.
      tests _ _ _ _ _ λ b.
      reads (members_are_formed left (mark g) inner law max_members _) λ ms u k. gives (grouped-formed g left parent ms e k)

  either-formed :
      (left parent : ℕ) (inner : Group → Parser Formula) (o : Option Group) (t : List ℕ) →
      ((g : Group) → Gives (inner g t) (Formed (length facts) left parent)) → Gives (either facts inner o t) (Formed (length facts) left parent)
  unfolding either
  either-formed left parent inner None t law = leaf_is_formed left parent t
  either-formed left parent inner (Some g) t law = law g

  -- an item may stand in a group whose mark is `parent`, where `left` more groups may nest
  pub item_is_formed : (left parent : ℕ) (t : List ℕ) → Gives (item facts left parent t) (Formed (length facts) left parent)
  unfolding item
  item_is_formed zero parent t = either-formed 0 parent _ _ t λ g. fails
  item_is_formed (suc left) parent t = either-formed (suc left) parent _ _ t λ g. group_is_formed g left parent _ (item_is_formed left (mark g)) t

  -- a formula is sound
  pub formula_is_ok : (t : List ℕ) → Gives (formula facts t) (FormulaOk (length facts))
  unfolding formula ◌>>=◌ ◌>>◌ and_then here done
  formula_is_ok t =
      reads (item_is_formed max_depth 0 t) λ f u a.
      tests _ _ _ _ _ λ e. gives (record { formed = a; short = leb-true _ _ e })

  always-ok : FormulaOk (length facts) (all none)
  unfolding Formed formula_bytes
  always-ok = record { formed = (omega arith, λ e. absurd (omega arith), omega arith, tt); short = omega arith }

  -- so is one after a word, or in its place
  pub formula_after_is_ok : (key t : List ℕ) → Gives (formula_after facts key t) (FormulaOk (length facts))
  unfolding formula_after
  formula_after_is_ok key t = either-way (bytes_eq (word t) key) _ _ (λ e. formula_is_ok _) λ e. gives always-ok

  -- so does a verb
  verb-makes : (w : List ℕ) (literal : ℕ → Literal) → verb facts w ≡ Some literal → Makes literal
  verb-makes w literal e = by-test (bytes_eq w (codes "sets")) (bytes_eq w (codes "clears")) e
    where
      by-test : (sets clears : Bool) → cond sets (Some fact) (cond clears (Some denial) None) ≡ Some literal → Makes literal
      by-test true clears h f k = let same : fact ≡ literal = grind arith in rw (← same) k
      by-test false true h f k = let same : denial ≡ literal = grind arith in rw (← same) k
      by-test false false h f k = absurd (grind arith)

  -- what is asked of an effect whose literal's byte is `least` or more
  abbrev pub EffectOk : ℕ → Effect → Type 0
  EffectOk least e = Declared (length facts) e.literal × (least ≤ literal_byte e.literal) × FormulaOk (length facts) e.condition

  -- an effect whose verb is given
  pub effect_is_ok : (literal : ℕ → Literal) → Makes literal → (least : ℕ) (t : List ℕ) → Gives (effect facts literal least t) (EffectOk least)
  unfolding effect ◌>>=◌ ◌>>◌ and_then here next done
  effect_is_ok literal law least t =
      finds _ _ _ _ _ λ f i.
      tests _ _ _ _ _ λ e.
      reads (formula_after_is_ok (codes "if") _) λ c u k. gives (law f (index_is_below facts _ f i), leb-true _ _ e, k)

  -- what is asked of so many effects at most
  abbrev pub ManyEffectsOk : ℕ → ℕ → List Effect → Type 0
  ManyEffectsOk n least es = EffectsOk (length facts) least es × (length es ≤ n)

  effects-from-ok :
      (n least : ℕ) (some : (ℕ → Literal) → Parser (List Effect)) (o : Option (ℕ → Literal)) (t : List ℕ) →
      ((literal : ℕ → Literal) → o ≡ Some literal → Gives (some literal t) (ManyEffectsOk n least)) →
      Gives (effects_from facts some o t) (ManyEffectsOk n least)
  unfolding effects_from done
  effects-from-ok n least some None t law = gives (tt, omega arith)
  effects-from-ok n least some (Some literal) t law = law literal refl

  -- effects rise, from `least` on, and there are so many at most
  pub effects_are_ok : (n least : ℕ) (t : List ℕ) → Gives (effects facts n least t) (ManyEffectsOk n least)
  unfolding effects ◌>>=◌ and_then done
  effects_are_ok zero least t = effects-from-ok 0 least _ _ t λ literal i. fails
  effects_are_ok (suc n) least t =
      effects-from-ok (suc n) least _ _ t λ literal i.
      reads (effect_is_ok literal (verb-makes (word t) literal i) least t) λ e u (a, b, c).
      reads (effects_are_ok n (suc (literal_byte e.literal)) u) λ es v (d, l).
      gives ((a, b, c, rw (add-one (literal_byte e.literal)) d), omega arith)
