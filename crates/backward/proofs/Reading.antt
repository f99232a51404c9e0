-- The state that stands in a row becomes that of lane 0, fact by fact. Assumes nothing.
use Rattle.backward.proofs.Words.{◌≡◌, refl, sym, ap, ◌∙◌, Bool, false, List, map, ℕ, ◌+◌, ◌<◌, arith, length, get_or, set, get_or-set_same, get_or-set_other, ext_get_or, eqb, ne_eqb, ℕ_discrete, length-map, get_or-map, No, known, flag, lane_bit, ones, bit-ones, bit-zero, value_in, Cases, case_of, ShowsRow}
use Rattle.backward.proofs.States.{case-length}

-- a word with a row's value in every lane
pub lanes-one : (b : ℕ) → b ≡ 1 → value_in (lane_bit 0 ones) (lane_bit 0 ones) ≡ known (eqb b 1)
lanes-one b e = rw (bit-ones 0 (omega arith), e) refl

pub lanes-other : (b : ℕ) → (b ≡ 1 → ⊥) → value_in (lane_bit 0 0) (lane_bit 0 0) ≡ known (eqb b 1)
lanes-other b n = rw (bit-zero 0, ne_eqb b 1 n) refl

flag-known : (b : Bool) → eqb (flag b) 1 ≡ b
flag-known b = grind arith

module _ (n : ℕ) (row : List ℕ) where
  -- the facts before f are as in the row
  pub record Reading (f : ℕ) (c : Cases) : Type 0 where
    pub facts : c.facts ≡ n
    pub is : (st : List Bool) → row ≡ map flag st → (g : ℕ) → g < f → get_or (case_of c 0) g No ≡ known (get_or st g false)

  pub reading-begins : (c : Cases) → c.facts ≡ n → Reading 0 c
  reading-begins c e = record { facts = e; is = λ st r g l. absurd (omega arith) }

  pub reading-next :
      (f : ℕ) (c d : Cases) (w : ℕ) → f < n → Reading f c → value_in (lane_bit 0 w) (lane_bit 0 w) ≡ known (eqb (get_or row f 0) 1) →
      d.facts ≡ c.facts → case_of d 0 ≡ set (case_of c 0) f (value_in (lane_bit 0 w) (lane_bit 0 w)) → Reading (f + 1) d
  reading-next f c d w l R v same k =
      record {
        facts = same ∙ R.facts;
        is =
            λ st r g m.
            rw k
            (elim (ℕ_discrete g f) [
              | yes i ↦
                  let size : f < length (case_of c 0) = omega (arith, case-length c 0, R.facts) in
                  rw (i, get_or-set_same (case_of c 0) f (value_in (lane_bit 0 w) (lane_bit 0 w)) No size, v, r, get_or-map flag st f false, flag-known (get_or st f false)) refl
              | no o ↦ get_or-set_other (case_of c 0) f g (value_in (lane_bit 0 w) (lane_bit 0 w)) No o ∙ R.is st r g (omega (arith, m, o))
            ]);
      }

  pub reading-ends : (f : ℕ) (c : Cases) → length row ≡ n → n ≡ f → Reading f c → ShowsRow row c
  reading-ends f c size e R st r =
      let count : length st ≡ n = sym (length-map st flag) ∙ ap length (sym r) ∙ size in
      ext_get_or No (case_of c 0) (map known st) (case-length c 0 ∙ R.facts ∙ sym (length-map st known ∙ count))
      (λ g l. R.is st r g (omega (arith, l, case-length c 0, R.facts, e)) ∙ sym (get_or-map known st g false))
