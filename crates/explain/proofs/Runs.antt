-- What is told of the steps that are left, a step at a time. Assumes nothing.
use Rattle.std.proofs.Common.{◌≡◌, refl, sym, ap, ◌∙◌, Bool, true, false, List, [], ◌∷◌, ◌++◌, ℕ, zero, suc, ◌+◌, ◌≤◌, ◌<◌, min, length, drop, drop-cons, get_or, add-one, arith}
use Rattle.model.specs.Kleene.{two, three}
use Rattle.model.specs.Action.{Action, applicable, step}
use Rattle.model.specs.ProblemBytes.{Problem, action_at}
use Rattle.model.specs.Case.{flag}
use Rattle.model.specs.Planes.{lane_bit}
use Rattle.model.proofs.Laws.Planes.{low_bit}
use Rattle.cases.specs.declared.cases.Cases.{Cases}
use Rattle.cases.specs.Cases.{case_of}
use Rattle.step.specs.declared.action.Hindrance.{Hindrance}
use Rattle.step.specs.Actions.{GoesOn, IsHindered}
use Rattle.names.specs.Names.{Names}
use Rattle.explain.specs.States.{state_in, IsKnown}
use Rattle.explain.specs.Rows.{rows}
use Rattle.explain.specs.Told.{step_head, changes_text, block_text, end_text, told}
use Rattle.explain.specs.Tells.{told_from}
use Rattle.explain.proofs.Known.{applicable-here, state-after, has-state-after}

-- ---- of a list of steps

module _ (N : Names) (p : Problem) (i : ℕ) (c : List Bool) where
  abbrev act : ℕ → Action
  act b = action_at p.actions b

  pub told-step :
      (b : ℕ) (bs : List ℕ) → applicable two p.facts (act b) c ≡ true →
      told_from N p (b ∷ bs) i c ≡
      step_head N i b ++
      (changes_text N c (step two p.facts (act b) c) 0 p.facts ++ (10 ∷ told_from N p bs (suc i) (step two p.facts (act b) c)))
  unfolding told rows
  told-step b [] e = rw e refl
  told-step b (b' ∷ bs) e = rw e refl

  pub told-block :
      (b : ℕ) (bs : List ℕ) → applicable two p.facts (act b) c ≡ false → told_from N p (b ∷ bs) i c ≡ step_head N i b ++ block_text N p (act b) c
  unfolding told rows
  told-block b bs e = rw e refl

  told-end : told_from N p [] i c ≡ end_text N p c
  unfolding told rows
  told-end = refl

-- ---- of the steps of a plan from step i on, from the state in lane 0

none-left : (bs : List ℕ) (i : ℕ) → length bs ≤ i → drop i bs ≡ []
none-left [] zero h = refl
none-left [] (suc i) h = refl
none-left (b ∷ bs) zero h = absurd (omega arith)
none-left (b ∷ bs) (suc i) h = none-left bs i (omega arith)

-- lane 0 alone was asked
goes : (lanes : ℕ) (b : Bool) → lanes ≤ 1 → (lanes ≡ 0 → ⊥) → lane_bit 0 lanes ≡ min (lane_bit 0 1) (flag b) → b ≡ true
goes lanes true l n e = refl
goes lanes false l n e =
    let k : lanes ≡ 1 = omega arith in
    absurd (omega (arith, rw k at e, low_bit 1))

stops : (b : Bool) → min (lane_bit 0 1) (flag b) ≡ 0 → b ≡ false
stops true e = absurd (omega (arith, e, low_bit 1))
stops false e = refl

module _ (N : Names) (p : Problem) (bs : List ℕ) (i : ℕ) (c : Cases) where
  pub run-ends : length bs ≤ i → told_from N p (drop i bs) i (state_in c) ≡ end_text N p (state_in c)
  run-ends h = ap (λ (t : List ℕ). told_from N p t i (state_in c)) (none-left bs i h) ∙ told-end N p i (state_in c)

  module _ (H : IsKnown c) (same : c.facts ≡ p.facts) (l : i < length bs) (a : Action) (is : a ≡ action_at p.actions (get_or bs i 0)) (d : Cases) where
    pub run-stops :
        (h : Hindrance) → IsHindered c a 1 d h →
        told_from N p (drop i bs) i (state_in c) ≡ step_head N i (get_or bs i 0) ++ block_text N p a (state_in c)
    run-stops h O =
        let e : applicable two p.facts (action_at p.actions (get_or bs i 0)) (state_in c) ≡ false = rw (← same, ← is) (sym (applicable-here c H a c.facts) ∙ stops _ (O.none 0 (omega arith))) in
        ap (λ (t : List ℕ). told_from N p t i (state_in c)) (drop-cons bs i 0 l) ∙ rw is (told-block N p i (state_in c) (get_or bs i 0) (drop (suc i) bs) e)

    module _ (left : ℕ) (O : GoesOn c a 1 d left) where
      after-step : case_of d 0 ≡ step three c.facts a (case_of c 0)
      after-step = O.cases 0 (omega arith)

      pub state-next : IsKnown d
      state-next = has-state-after c H a c.facts d after-step

      pub run-next :
          told_from N p (drop i bs) i (state_in c) ≡
          step_head N i (get_or bs i 0) ++ (changes_text N (state_in c) (state_in d) 0 c.facts ++ (10 ∷ told_from N p (drop (i + 1) bs) (i + 1) (state_in d)))
      run-next =
          let e : applicable two p.facts (action_at p.actions (get_or bs i 0)) (state_in c) ≡ true = rw (← same, ← is) (sym (applicable-here c H a c.facts) ∙ goes left _ O.among O.some (O.bits 0 (omega arith))) in
          let st : state_in d ≡ step two p.facts (action_at p.actions (get_or bs i 0)) (state_in c) = state-after c H a c.facts d after-step ∙ rw (same, is) refl in
          ap (λ (t : List ℕ). told_from N p t i (state_in c)) (drop-cons bs i 0 l) ∙
          rw (add-one i, st) (told-step N p i (state_in c) (get_or bs i 0) (drop (suc i) bs) e) ∙
          ap (λ (n : ℕ). step_head N i (get_or bs i 0) ++ (changes_text N (state_in c) (state_in d) 0 n ++ (10 ∷ told_from N p (drop (i + 1) bs) (i + 1) (state_in d)))) (sym same)
