-- What sound effects begin with. Assumes nothing.
use Rattle.std.proofs.Common.{◌≡◌, refl, ap, ℕ, zero, suc, ◌+◌, ◌-◌, ◌≤◌, ◌<◌, List, ◌∷◌, length, get_or, drop, arith, sub-one, true, length-drop, leb-true, le-leb}
use Rattle.model.specs.FormulaBytes.{is_literal, literal_of}
use Rattle.model.proofs.Laws.FormulaCodec.{literal-got}
use Rattle.model.proofs.Laws.Truth.{and-true, and_both}
use Rattle.formula.specs.Decoding.{decode, head}
use Rattle.fields.specs.ActionBytes.{stated, body, beyond, is_stated, effects_of, are_effects, Rising}

pub record First (facts n : ℕ) (s : List ℕ) : Type 0 where
  pub some : 1 ≤ length s
  pub declared : is_literal facts (get_or s 0 0) ≡ true
  pub stated : is_stated (drop 1 s) ≡ true
  pub is : effects_of n s ≡ record { literal = literal_of (get_or s 0 0); condition = head (decode (body (drop 1 s))) } ∷ effects_of (n - 1) (beyond (drop 1 s))
  pub sound : are_effects facts 0 (n - 1) (beyond (drop 1 s)) ≡ true

-- effects that rise from a byte on rise from every lower one on
rise-lower : (facts least low n : ℕ) (s : List ℕ) → low ≤ least → are_effects facts least n s ≡ true → are_effects facts low n s ≡ true
unfolding are_effects
rise-lower facts least low zero s l e = refl
rise-lower facts least low (suc n) s l e =
    let (a, b) = and-true _ _ e in
    let (i, r) = and-true _ _ a in
    and_both _ _ (and_both _ _ i (le-leb low (get_or s 0 0) (omega (arith, leb-true least (get_or s 0 0) r)))) b

pub effect-first : (facts n : ℕ) (s : List ℕ) → are_effects facts 0 n s ≡ true → 0 < n → First facts n s
unfolding effects_of are_effects
effect-first facts zero s e h = absurd (omega arith)
effect-first facts (suc n) s e h =
    let (a, b) = and-true _ _ e in
    let (i, r) = and-true _ _ a in
    let (c, d) = and-true _ _ b in
    let (f, g) = and-true _ _ c in
    let from_zero : 0 ≤ get_or s 0 0 + 1 = omega arith in
    let lower : are_effects facts 0 n (beyond (drop 1 s)) ≡ true = rise-lower facts (get_or s 0 0 + 1) 0 n (beyond (drop 1 s)) from_zero d in
    record {
      some = omega (arith, leb-true (2 + stated (drop 1 s)) (length (drop 1 s)) f, length-drop 1 s);
      declared = i;
      stated = c;
      is = rw sub-one refl;
      sound = rw sub-one lower;
    }

pub length-effects : (n : ℕ) (s : List ℕ) → length (effects_of n s) ≡ n
unfolding effects_of
length-effects zero s = refl
length-effects (suc n) s = ap suc (length-effects n (beyond (drop 1 s)))

pub effects-rise : (facts : ℕ) → facts ≤ 64 → (least n : ℕ) (s : List ℕ) → are_effects facts least n s ≡ true → Rising facts least (effects_of n s)
unfolding effects_of are_effects
effects-rise facts few least zero s e = tt
effects-rise facts few least (suc n) s e =
    let (a, b) = and-true _ _ e in
    let (i, r) = and-true _ _ a in
    let (c, d) = and-true _ _ b in
    let (g, l) = literal-got facts few (get_or s 0 0) i in
    let rest = effects-rise facts few (get_or s 0 0 + 1) n (beyond (drop 1 s)) d in
    (g, rw l (leb-true least (get_or s 0 0) r), rw l rest)
