-- The bytes of a formula and of an action hold it. Assumes nothing.
use Rattle.std.proofs.Common.{◌≡◌, refl, sym, ap, subst, ◌∙◌, ℕ, ◌+◌, ◌-◌, ◌≤◌, List, [], ◌∷◌, add-zero, length, get_or, drop, arith, true, drop-drop, get_or-drop, length-drop, le-leb, eq-eqb}
use Rattle.model.specs.Limits.{max_effects}
use Rattle.model.specs.Formula.{Formula}
use Rattle.model.specs.Action.{Effect, Action}
use Rattle.model.specs.FormulaBytes.{literal_byte, encode_formula, member_count}
use Rattle.model.specs.declared.Limits.{Limits}
use Rattle.model.specs.Read.{got, bytes_of}
use Rattle.model.specs.ProblemBytes.{action, effects_bytes, action_bytes}
use Rattle.model.proofs.Laws.ProblemCodec.{action-got}
use Rattle.formula.specs.Readings.{forgotten}
use Rattle.formula.proofs.Readers.{next-got}
use Rattle.model.specs.WellFormed.{Bytes, EffectsOk}
use Rattle.model.proofs.Laws.Spans.{Span, FormulaAt, ActionAt}
use Rattle.model.proofs.Laws.Reading.{first, split, span-length, span-end}
use Rattle.model.proofs.Laws.FormulaCodec.{literal-ok, stated-bytes}
use Rattle.model.proofs.Laws.Truth.{and_both}
use Rattle.formula.specs.Decoding.{decode, head}
use Rattle.fields.specs.ActionBytes.{stated, body, beyond, is_stated, effects_of, are_effects, action_of, is_action}
use Rattle.formula.proofs.Encoding.{stands-decoded}

pub record Stated (s : List ℕ) (p : ℕ) (f : Formula) (q : ℕ) : Type 0 where
  pub sound : is_stated (drop p s) ≡ true
  pub is : head (decode (body (drop p s))) ≡ f
  pub rest : beyond (drop p s) ≡ drop q s

module _ (facts : ℕ) (few : facts ≤ 64) (s : List ℕ) where
  pub formula-stated : (p : ℕ) (f : Formula) (q : ℕ) → FormulaAt s facts p f q → Stated s p f q
  formula-stated p f q at =
      let e = (stated-bytes s facts p f q at).0 in
      let (l, m, d) = stands-decoded facts few s p f q at in
      let n : stated (drop p s) ≡ q - (p + 2) = rw (get_or-drop, get_or-drop, add-zero) (omega arith) in
      let i : drop 2 (drop p s) ≡ drop (p + 2) s = drop-drop 2 p s in
      let o : drop (q - (p + 2)) (drop (p + 2) s) ≡ drop q s = drop-drop _ _ s ∙ ap (λ (k : ℕ). drop k s) (omega arith) in
      record {
        sound =
            rw (n, i)
            (and_both _ _ (le-leb _ _ (omega (arith, length-drop p s))) (and_both _ _ d.sound (eq-eqb _ _ (ap member_count d.is))));
        is = rw (n, i, d.is) refl;
        rest = rw (n, i) o;
      }

  effects-stated :
      (es : List Effect) (least p q : ℕ) → EffectsOk facts least es → Span s (length s) p (effects_bytes es) q →
      (are_effects facts least (length es) (drop p s) ≡ true) × (effects_of (length es) (drop p s) ≡ es)
  unfolding effects_bytes are_effects effects_of
  effects-stated [] least p q ok v = (refl, refl)
  effects-stated (e ∷ es) least p q ok v =
      let (l, b, w) = first v in
      split (encode_formula e.condition) w λ m x y.
      let f = formula-stated (p + 1) e.condition m (record { ok = ok.2; bytes = x }) in
      let (z, t) = effects-stated es (literal_byte e.literal + 1) m q ok.3 y in
      let i : drop 1 (drop p s) ≡ drop (p + 1) s = drop-drop 1 p s in
      let g : get_or (drop p s) 0 0 ≡ literal_byte e.literal = rw (get_or-drop, add-zero) b in (
        rw (i, g, f.rest) (and_both _ _ (and_both _ _ (literal-ok facts few e.literal ok.0).0 (le-leb _ _ ok.1)) (and_both _ _ f.sound z)),
        rw (i, g, f.rest, f.is, (literal-ok facts few e.literal ok.0).1, t) refl,
      )

  pub action-stated : (p : ℕ) (a : Action) (q : ℕ) → ActionAt s facts p a q → (is_action facts (drop p s) ≡ true) × (action_of (drop p s) ≡ a)
  unfolding action_bytes
  action-stated p a q at =
      split (encode_formula a.precondition) at.bytes λ m x y.
      let f = formula-stated p a.precondition m (record { ok = at.precondition; bytes = x }) in
      let (l, b, w) = first y in
      let (z, t) = effects-stated a.effects 0 (m + 1) q at.effects w in
      let g : get_or (drop m s) 0 0 ≡ length a.effects = rw (get_or-drop, add-zero) b in
      let i : drop 1 (drop m s) ≡ drop (m + 1) s = drop-drop 1 m s in (
        rw (f.rest, g, i)
            (and_both _ _ f.sound (and_both _ _ (le-leb _ _ (omega (arith, length-drop m s))) (and_both _ _ (le-leb _ _ at.few) z))),
        rw (f.rest, g, i, f.is, t) refl,
      )

-- an action that was read
pub record ActionCut (F : Limits) (s : List ℕ) (facts p q : ℕ) : Type 0 where
  pub read : action F s facts p ≡ got (action_of (drop p s)) q
  pub sound : is_action facts (drop p s) ≡ true
  pub begins : p ≤ length s
  -- it ends where its bytes do
  pub ends : q ≡ p + length (action_bytes (action_of (drop p s)))
  pub inside : q ≤ length s

pub action-cut :
    (F : Limits) (s : List ℕ) (facts p q : ℕ) → facts ≤ 64 → F.effects ≤ max_effects → Bytes s → got tt q ≡ forgotten (action F s facts p) → ActionCut F s facts p q
unfolding action_bytes encode_formula bytes_of
action-cut F s facts p q few most b e =
    let g = next-got (action F s facts p) q e in
    let (k, v) = action-got F s facts few p g.value q b g.is in
    let at : ActionAt s facts p g.value q = record { precondition = k.precondition; few = omega (arith, k.count); effects = k.effects; bytes = v } in
    let (z, t) = action-stated facts few s p g.value q at in
    let begins : p ≤ length s = omega (arith, (first v).0) in
    record { read = rw t g.is; sound = z; begins = begins; ends = subst (λ (x : Action). q ≡ p + length (action_bytes x)) (sym t) (span-length v); inside = span-end v begins }
