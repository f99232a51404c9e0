-- The number of a state, and the run of the state that it has. Assumes nothing.
use Rattle.std.proofs.Common.{◌≡◌, refl, sym, ap, ◌∙◌, true, false, map, ℕ, ◌-◌, ◌%◌, ◌^◌, ◌≤◌, ◌<◌, length, arith, mod-lt, mod-eq_of_lt, ltb, pow_pos, ext_get_or, lt-ltb, le-ltb, eq-eqb, ne_eqb}
use native.Mathlib.Decide.{dec_lt}
use lib.ListN.{length-map, get_or-map}
use Rattle.model.specs.Kleene.{No, known, three}
use Rattle.model.specs.Run.{run}
use Rattle.model.specs.Case as model
use Rattle.model.specs.Case.{bit, state_of, Task, run_of}
use Rattle.model.specs.Operations.{is_state_number}
use Rattle.model.proofs.Laws.Tabulate.{length-tabulate, get_d_tabulate}
use Rattle.model.proofs.Laws.Truth.{and_none}
use Rattle.model.proofs.Laws.Verdicts.{run-full}
use Rattle.cases.specs.declared.cases.Cases.{Cases}
use Rattle.cases.specs.Cases.{case_of}
use Rattle.runs.specs.States.{InEachLane}

-- ---- whether it is one, by the bits of it that are kept

module _ (T : Task) (s low : ℕ) (l : low ≡ s % 2 ^ T.width) where
  pub no-state-past : (low ≡ s → ⊥) → is_state_number T s ≡ false
  unfolding is_state_number
  no-state-past h =
      elim (dec_lt s (2 ^ T.width)) [
        | yes y ↦ absurd (h (l ∙ mod-eq_of_lt y))
        | no y ↦ let k : 2 ^ T.width ≤ s = omega arith in rw (le-ltb s (2 ^ T.width) k) refl
      ]

  pub state-small : low ≡ s → s < 2 ^ T.width
  state-small h = omega (arith, mod-lt s (pow_pos T.width))

  module _ (rest : ℕ) (r : rest ≡ s % 2 ^ (T.width - T.facts)) where
    pub no-state-bits : (rest ≡ 0 → ⊥) → is_state_number T s ≡ false
    unfolding is_state_number
    no-state-bits h = rw (← r, ne_eqb rest 0 h) (and_none (ltb s (2 ^ T.width)))

    pub is-state : low ≡ s → rest ≡ 0 → is_state_number T s ≡ true
    unfolding is_state_number
    is-state h z = rw (← r, lt-ltb s (2 ^ T.width) (state-small h), eq-eqb rest 0 z) refl

-- ---- the state

-- a state is the case that fixes every fact
pub case-known : (w n s : ℕ) → model.case_of w n n s ≡ map known (state_of w n s)
unfolding state_of model.case_of
case-known w n s =
    let size : length (model.case_of w n n s) ≡ n = length-tabulate n _ in
    ext_get_or No _ (map known (state_of w n s)) (size ∙ sym (length-map (state_of w n s) known ∙ length-tabulate n (bit w s)))
    (λ i l.
    let m : i < n = omega (arith, size, l) in
    get_d_tabulate n _ i No m ∙ rw (lt-ltb i n m) (sym (get_or-map known (state_of w n s) i false ∙ ap known (get_d_tabulate n (bit w s) i false m))))

-- its run is that of the case in lane 0
pub state-run : (T : Task) (s : ℕ) (c : Cases) → InEachLane T s c → run three T.facts T.goal T.plan 0 (case_of c 0) ≡ run_of T s
unfolding run_of
state-run T s c H =
    ap (run three T.facts T.goal T.plan 0) (H 0 (omega arith)) ∙ run-full T.width T.facts T.goal T.plan s
