-- What conditions that hold an action's entries know of them; and the loop that finds them. Assumes nothing.
use Rattle.std.proofs.Common.{◌≡◌, refl, sym, ap, ◌∙◌, true, ℕ, ◌+◌, ◌<◌, List, [], ◌∷◌, length, get_or, drop, arith, below_more}
use Rattle.std.proofs.lemmas.List.{drop_more}
use Rattle.model.specs.{Kleene.Kleene, Kleene.three, Formula.eval, FormulaBytes.is_literal, FormulaBytes.literal_byte, Action.Effect, WellFormed.Declared}
use Rattle.model.proofs.Laws.FormulaCodec.{literal-got, literal-ok}
use Rattle.formula.specs.Views.{literal}
use Rattle.fields.specs.{ActionBytes.Rising, Actions.effect, declared.actions.Effect.Effect as View}
use Rattle.cases.specs.{declared.value.Value.Value, Cases.value_at}
use Rattle.step.specs.{declared.conditions.Conditions.Conditions, Conditions.entry_at, Conditions.literal_at, Conditions.condition_at, Conditions.Hold, Conditions.Pushed}
use Rattle.step.proofs.Entries.{byte_at, declared-at, rises, rising-by}

-- a literal's byte is that of the literal which it tells
pub byte-of : (c : Conditions) (i : ℕ) → i < c.count → Declared c.facts (literal_at c i) × (literal_byte (literal_at c i) ≡ get_or c.literals i 0)
byte-of c i h = literal-got c.facts c.few_facts (get_or c.literals i 0) (c.declared i h)

pub held-byte : (c : Conditions) (es : List Effect) (i : ℕ) → i < c.count → literal_at c i ≡ (entry_at es i).literal → get_or c.literals i 0 ≡ byte_at es i
held-byte c es i h e = sym (byte-of c i h).1 ∙ ap literal_byte e

pub held-rise : (c : Conditions) (es : List Effect) (case : ℕ → List Kleene) → Hold c es case → Rising c.facts 0 es
held-rise c es case H =
    rising-by c.facts 0 es
    (λ i h. let l : i < c.count = omega (arith, H.count) in ((rw (← H.literal i l) (byte-of c i l).0), omega arith))
    (λ i k a b.
    let l : k < c.count = omega (arith, H.count) in
    let m : i < c.count = omega arith in
    omega (arith, c.rise i k a l, held-byte c es i m (H.literal i m), held-byte c es k l (H.literal k l)))

-- ---- finding

-- entry i is there: its literal, and the value of its condition
abbrev Held : Conditions → List Effect → (ℕ → List Kleene) → ℕ → Type 0
Held c es case i =
    (literal_at c i ≡ (entry_at es i).literal) × ((j : ℕ) → j < 64 → value_at (condition_at c i) j ≡ eval three (case j) (entry_at es i).condition)

-- the conditions hold the entries of es but for the rest
pub record Finding (facts : ℕ) (es : List Effect) (case : ℕ → List Kleene) (c : Conditions) (rest : List Effect) : Type 0 where
  pub ok : Rising facts 0 es
  pub same : c.facts ≡ facts
  pub left : c.count + length rest ≡ length es
  pub are : drop c.count es ≡ rest
  pub each : (i : ℕ) → i < c.count → Held c es case i

module _ (facts : ℕ) (es : List Effect) (case : ℕ → List Kleene) (c : Conditions) (rest : List Effect) (F : Finding facts es case c rest) where
  pub finding-ends : rest ≡ [] → Hold c es case
  finding-ends e = record { count = omega (arith, F.left, ap length e); literal = λ i h. (F.each i h).0; value = λ i h. (F.each i h).1 }

  -- the next one
  module _ (r : View) (rest' : List Effect) (x : rest ≡ effect r ∷ rest') where
    pub next-below : c.count < length es
    next-below = omega (arith, F.left, ap length x)

    pub next-is : (entry_at es c.count ≡ effect r) × (drop (c.count + 1) es ≡ rest')
    next-is = let d : entry_at es c.count ∷ drop (c.count + 1) es ≡ effect r ∷ rest' = sym (drop_more es c.count _ next-below) ∙ F.are ∙ x in (cc, cc)

    pub next-literal : literal r.literal ≡ (entry_at es c.count).literal
    next-literal = rw next-is.0

    next-byte : literal_byte (literal r.literal) ≡ r.literal.byte
    next-byte = (literal-got r.facts r.few_facts r.literal.byte r.declared).1

    pub next-declared : is_literal c.facts r.literal.byte ≡ true
    next-declared =
        let d : Declared c.facts (literal r.literal) = rw (F.same, next-literal) (declared-at facts 0 es c.count F.ok next-below).0 in
        rw next-byte at (literal-ok c.facts c.few_facts (literal r.literal) d).0

    pub next-rises : (i : ℕ) → i < c.count → get_or c.literals i 0 < r.literal.byte
    next-rises i h =
        let a = rises facts 0 es i c.count F.ok h next-below in
        omega (arith, a, ap literal_byte next-literal, next-byte, held-byte c es i h (F.each i h).0)

    module _ (v : Value) (y : (j : ℕ) → j < 64 → value_at v j ≡ eval three (case j) (effect r).condition) (d : Conditions) (P : Pushed c r.literal.byte v d) where
      pub finding-next : Finding facts es case d rest'
      finding-next =
          record {
            ok = F.ok;
            same = P.facts ∙ F.same;
            left = omega (arith, F.left, ap length x, P.count);
            are = rw P.count next-is.1;
            each =
                λ i h.
                below_more (Held d es case) c.count (λ i l. (rw (P.literals i l) (F.each i l).0, λ j m. P.values i l j m ∙ (F.each i l).1 j m)) (rw (P.literal, next-is.0) refl, λ j m. P.value j m ∙ y j m ∙ rw next-is.0 refl) i
                (omega (arith, P.count));
          }
