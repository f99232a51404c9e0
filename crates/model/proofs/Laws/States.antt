-- A state's values and its number: each tells the other. Assumes nothing.
use Rattle.model.proofs.Words.{◌≡◌, sym, ap, ◌∙◌, Bool, false, List, ℕ, suc, ◌+◌, ◌-◌, ◌*◌, ◌%◌, ◌^◌, ◌≤◌, ◌<◌, arith, mul-div_cancel, pow_pos, length, get_or, get_or-eq_default, ext_get_or, dec_lt, bit, state_of, Task, IsState, number_of}
use Rattle.model.proofs.Laws.{Tabulate.get_d_tabulate, Relevance.start-length}
use Rattle.model.proofs.Laws.Cover.{Block, rescale, pow-half, mod-of-block, block-of-mod}
use Rattle.model.proofs.Laws.StateNumbers.{number-below, number-block, number_bit, number-of}

-- no bit past the facts of a block is set
bit-past : (w k s : ℕ) → k < w → Block w k s → bit w s k ≡ false
unfolding bit
bit-past w k s h b =
    let e : s ≡ b.q * 2 * 2 ^ (w - suc k) = omega (arith, b.is ∙ ap (λ (x : ℕ). b.q * x) (pow-half w k h)) in
    let o : b.q * 2 % 2 ≡ 0 = omega arith in
    rw (e, mul-div_cancel (b.q * 2) (pow_pos (w - suc k)), o)

module _ (T : Task) (n≤w : T.facts ≤ T.width) where
  abbrev values : ℕ → List Bool
  values s = state_of T.width T.facts s

  values-at : (s f : ℕ) → f < T.facts → get_or (values s) f false ≡ bit T.width s f
  unfolding state_of
  values-at s f l = get_d_tabulate T.facts (bit T.width s) f false l

  -- a list of as many values as there are facts is a state's
  pub number-is-state : (c : List Bool) → length c ≡ T.facts → IsState T (number_of T.width c)
  number-is-state c e =
      record {
        in_width = number-below T.width c (omega arith);
        no_bits = rw e at (mod-of-block T.width (length c) (number_of T.width c) (number-block T.width c (omega arith)));
      }

  pub values-of-number : (c : List Bool) → length c ≡ T.facts → values (number_of T.width c) ≡ c
  values-of-number c e = grind (arith, (ext_get_or false (values (number_of T.width c)) c), (start-length T n≤w), values-at, (number_bit T.width c))

  -- and a state is known by its values
  pub number-of-values : (s : ℕ) → IsState T s → number_of T.width (values s) ≡ s
  number-of-values s st = sym (number-of T.width s (values s) st.in_width (omega (arith, start-length T n≤w s)) at-bit)
    where
      at-bit : (i : ℕ) → i < T.width → bit T.width s i ≡ get_or (values s) i false
      at-bit i l =
          elim (dec_lt i T.facts) [
            | yes h ↦ sym (values-at s i h)
            | no h ↦
                let b = rescale T.width T.facts i s (omega arith) (omega arith) (block-of-mod T.width T.facts s st.no_bits) in
                bit-past T.width i s l b ∙ sym (get_or-eq_default (values s) false (omega (arith, start-length T n≤w s)))
          ]
