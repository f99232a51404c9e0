-- The text of effects, and that of what an action needs, are read as what they show. Assumes nothing.
use Rattle.std.proofs.Common.{◌≡◌, refl, false, List, [], ◌∷◌, ◌++◌, append_assoc, ℕ, zero, suc, ◌≤◌, ◌<◌, arith, add-one, subst, length, le-leb, None, Some}
use Rattle.std.specs.Prelude.{codes}
use Rattle.std.specs.Str.{bytes_eq}
use Rattle.model.specs.Formula.{Literal, fact, denial, Formula, lit, all, any, none, more}
use Rattle.model.specs.Action.{Effect}
use Rattle.model.specs.FormulaBytes.{literal_byte}
use Rattle.model.specs.WellFormed.{Declared, FormulaOk, EffectsOk}
use Rattle.words.specs.Words.{word, after_word, past_blanks, word_length, run_length}
use Rattle.names.specs.Names.{Names, Named}
use Rattle.names.specs.Texts.{fact_name, formula_text}
use Rattle.names.specs.ProblemText.{unless_always, literal_set, effects_text, needs_text}
use Rattle.make.specs.Parsed.{got, ◌>>=◌, ◌>>◌, and_then, done, here, next, found, require}
use Rattle.make.specs.FormulaText.{formula_after, verb, effect, effects_from, effects}
use Rattle.make.proofs.Words.{Ends}
use Rattle.make.proofs.Index.{index-named}
use Rattle.make.proofs.FormulaRead.{fact_names, formula-read_spaced}
use Rattle.make.proofs.NameRead.{name-word, after-name}

-- a line that goes on with none of what an action may have
pub record EndsAction (names : List (List ℕ)) (t : List ℕ) : Type 0 where
  pub no_condition : bytes_eq (word (10 ∷ t)) (codes "if") ≡ false
  pub no_needs : bytes_eq (word (10 ∷ t)) (codes "needs") ≡ false
  pub no_verb : verb names (word (10 ∷ t)) ≡ None

-- what a literal's word makes of a fact, and which fact the literal is of: together they are the literal
abbrev maker : Literal → ℕ → Literal
maker (fact f) = fact
maker (denial f) = denial

abbrev fact_of : Literal → ℕ
fact_of (fact f) = f
fact_of (denial f) = f

remade : (l : Literal) → maker l (fact_of l) ≡ l
remade (fact f) = refl
remade (denial f) = refl

declared : (facts : ℕ) (l : Literal) → Declared facts l → fact_of l < facts
declared facts (fact f) d = d
declared facts (denial f) d = d

-- the parts of a line, with the text that follows it
pub line-shape : (a b c t : List ℕ) → (a ++ (b ++ c)) ++ t ≡ a ++ (b ++ (c ++ t))
line-shape a b c t = simp append_assoc

module _ (N : Names) where
  -- the words that an effect's line begins with
  verb-read : (names : List (List ℕ)) (l : Literal) (x : List ℕ) → verb names (word (10 ∷ (literal_set N l ++ x))) ≡ Some (maker l)
  unfolding word past_blanks word_length run_length
  verb-read names (fact f) x = refl
  verb-read names (denial f) x = refl

  after-verb : (l : Literal) (x : List ℕ) → after_word (10 ∷ (literal_set N l ++ x)) ≡ 32 ∷ (fact_name N (fact_of l) ++ x)
  unfolding after_word past_blanks word_length run_length
  after-verb (fact f) x = refl
  after-verb (denial f) x = refl

  -- an effect's line is no condition of the one before, and nothing that is needed
  not-if : (l : Literal) (x : List ℕ) → bytes_eq (word (10 ∷ (literal_set N l ++ x))) (codes "if") ≡ false
  unfolding word past_blanks word_length run_length
  not-if (fact f) x = refl
  not-if (denial f) x = refl

  not-needs : (l : Literal) (x : List ℕ) → bytes_eq (word (10 ∷ (literal_set N l ++ x))) (codes "needs") ≡ false
  unfolding word past_blanks word_length run_length
  not-needs (fact f) x = refl
  not-needs (denial f) x = refl

  -- so no effects' text is, where what follows it is not
  pub no-condition-next :
      (es : List Effect) (t : List ℕ) → bytes_eq (word (10 ∷ t)) (codes "if") ≡ false →
      bytes_eq (word (10 ∷ (effects_text N es ++ t))) (codes "if") ≡ false
  unfolding effects_text
  no-condition-next [] t h = h
  no-condition-next (e ∷ es) t h = rw append_assoc (not-if e.literal _)

  pub no-needs-next :
      (es : List Effect) (t : List ℕ) → bytes_eq (word (10 ∷ t)) (codes "needs") ≡ false →
      bytes_eq (word (10 ∷ (effects_text N es ++ t))) (codes "needs") ≡ false
  unfolding effects_text
  no-needs-next [] t h = h
  no-needs-next (e ∷ es) t h = rw append_assoc (not-needs e.literal _)

  -- a name before a condition ends where it should
  condition-ends : (c : Formula) (u : List ℕ) → Ends (unless_always N (codes " if ") c ++ (10 ∷ u))
  unfolding unless_always
  condition-ends (lit l) u = refl
  condition-ends (all none) u = refl
  condition-ends (all (more m ms)) u = refl
  condition-ends (any ms) u = refl

  module _ (facts : ℕ) (named : Named facts N.facts) where
    abbrev L : List (List ℕ)
    L = fact_names N facts

    -- an effect's condition, which is left out where it is always true
    condition-formula :
        (c : Formula) (u : List ℕ) → FormulaOk facts c →
        formula_after L (codes "if") ((codes " if " ++ formula_text N c) ++ (10 ∷ u)) ≡ got c (10 ∷ u)
    unfolding formula_after word after_word past_blanks word_length run_length
    condition-formula c u ok = formula-read_spaced N facts named c (10 ∷ u) ok refl

    condition-read :
        (c : Formula) (u : List ℕ) → FormulaOk facts c → bytes_eq (word (10 ∷ u)) (codes "if") ≡ false →
        formula_after L (codes "if") (unless_always N (codes " if ") c ++ (10 ∷ u)) ≡ got c (10 ∷ u)
    unfolding unless_always formula_after
    condition-read (lit l) u ok other = condition-formula (lit l) u ok
    condition-read (all none) u ok other = rw other refl
    condition-read (all (more m ms)) u ok other = condition-formula (all (more m ms)) u ok
    condition-read (any ms) u ok other = condition-formula (any ms) u ok

    -- what an action needs, which is left out alike
    needs-formula :
        (f : Formula) (x : List ℕ) → FormulaOk facts f →
        formula_after L (codes "needs") (10 ∷ ((codes "  needs " ++ (formula_text N f ++ (10 ∷ []))) ++ x)) ≡ got f (10 ∷ x)
    unfolding formula_after word after_word past_blanks word_length run_length
    needs-formula f x ok = rw append_assoc (formula-read_spaced N facts named f (10 ∷ x) ok refl)

    pub needs-read :
        (f : Formula) (x : List ℕ) → FormulaOk facts f → bytes_eq (word (10 ∷ x)) (codes "needs") ≡ false →
        formula_after L (codes "needs") (10 ∷ (needs_text N f ++ x)) ≡ got f (10 ∷ x)
    unfolding needs_text formula_after
    needs-read (lit l) x ok other = needs-formula (lit l) x ok
    needs-read (all none) x ok other = rw other refl
    needs-read (all (more m ms)) x ok other = needs-formula (all (more m ms)) x ok
    needs-read (any ms) x ok other = needs-formula (any ms) x ok

    -- one effect
    effect-read :
        (l : Literal) (least : ℕ) (c : Formula) (u : List ℕ) → Declared facts l → least ≤ literal_byte l → FormulaOk facts c →
        bytes_eq (word (10 ∷ u)) (codes "if") ≡ false →
        effect L (maker l) least (10 ∷ (literal_set N l ++ (unless_always N (codes " if ") c ++ (10 ∷ u)))) ≡
        got (record { literal = l; condition = c }) (10 ∷ u)
    unfolding effect ◌>>=◌ ◌>>◌ and_then done here next found require
    effect-read l least c u d low ok other =
        let x = unless_always N (codes " if ") c ++ (10 ∷ u) in
        let f = fact_of l in
        let lt = declared facts l d in
        let name = named.sound f lt in
        let ends = condition-ends c u in
        rw
        (after-verb l x, name-word (fact_name N f) x name ends, after-name (fact_name N f) x name ends, index-named facts N.facts named f lt, remade l, le-leb least (literal_byte l) low, condition-read c u ok other)
        refl

    -- effects, up to a line that is none
    pub effects-read :
        (es : List Effect) (n least : ℕ) (t : List ℕ) → length es ≤ n → EffectsOk facts least es → EndsAction L t →
        effects L n least (10 ∷ (effects_text N es ++ t)) ≡ got es (10 ∷ t)
    unfolding effects effects_from effects_text ◌>>=◌ and_then done
    effects-read [] zero least t short ok ends = rw ends.no_verb refl
    effects-read [] (suc n) least t short ok ends = rw ends.no_verb refl
    effects-read (e ∷ es) zero least t short ok ends = absurd (omega arith)
    effects-read (e ∷ es) (suc n) least t short (d, low, c, rest) ends =
        let u = effects_text N es ++ t in
        let others = subst (λ (m : ℕ). EffectsOk facts m es) (add-one (literal_byte e.literal)) rest in
        let x = unless_always N (codes " if ") e.condition ++ (10 ∷ u) in
        rw
        (line-shape (literal_set N e.literal) (unless_always N (codes " if ") e.condition) (10 ∷ effects_text N es) t, verb-read L e.literal x, effect-read e.literal least e.condition u d low c (no-condition-next es t ends.no_condition), effects-read es n (suc (literal_byte e.literal)) t (omega arith) others ends)
        refl
