-- The solutions from a belief are the right plans: beliefs and runs of single states agree, and every list of n values is a
-- state. How the run of one state ends is what is said of the belief that has it alone. Assumes nothing.
use Rattle.model.proofs.Words.{◌≡◌, refl, sym, ap, ◌∙◌, Bool, true, false, false≢true, ◌↔◌, List, [], ◌∷◌, ◌++◌, append-nil, ℕ, zero, suc, ◌+◌, ◌-◌, ◌^◌, ◌≤◌, ◌<◌, arith, length, get_or, ext_get_or, pow_pos, two, Formula, eval, Action, tabulate, applicable, next, step, part_of, Stop, Outcome, reached, missed, blocked, at_end, goes_on, run, bit, state_of, Task, run_of, initially, IsState, Right, Belief, Entails, only, ApplicableIn, Image, after, Applicable, Solution, initial_belief, IsPart, Blocks, OutcomeMeans}
use Rattle.model.proofs.Laws.Tabulate.{length-tabulate, get_d_tabulate}
use Rattle.model.proofs.Laws.Conflicts.{applicable-state, part-is, is-part}
use Rattle.model.proofs.Laws.Agreement.{goes-on-reached, at-end-reached}
use Rattle.model.proofs.Laws.Cover.{Block, mod-of-block, root-block, root-span, agree}
use Rattle.model.proofs.Laws.Splitting.{part, part_in, part-block, part-bit}

module _ (n : ℕ) (goal : Formula) where
  step-image : (a : Action) (B : Belief) (s : List Bool) → B s → Image n a B (step two n a s)
  unfolding step
  step-image a B s b = record { size = length-tabulate n _; before = s; held = b; moves = λ f h. get_d_tabulate n (next two a s) f false h }

  image-step : (a : Action) (B : Belief) (t : List Bool) (m : Image n a B t) → t ≡ step two n a m.before
  unfolding step
  image-step a B t m = grind (arith, (ext_get_or false t (tabulate n (next two a m.before))), length-tabulate, get_d_tabulate)

  solution-runs : (plan : List Action) (i : ℕ) (B : Belief) → Solution n B goal plan → (s : List Bool) → B s → run two n goal plan i s ≡ reached
  unfolding run goes_on
  solution-runs [] i B h s b = ap at_end (h.1 s b)
  solution-runs (a ∷ plan) i B h s b = grind (arith, applicable-state, (solution-runs plan (suc i) (Image n a B)), step-image)

  runs-solution : (plan : List Action) (i : ℕ) (B : Belief) → ((s : List Bool) → B s → run two n goal plan i s ≡ reached) → Solution n B goal plan
  unfolding run
  runs-solution [] i B h = (tt, λ s b. at-end-reached _ (h s b))
  runs-solution (a ∷ plan) i B h =
      let r = runs-solution plan (suc i) (Image n a B) (λ t m. grind (arith, (image-step a B t m), (h m.before m.held), goes-on-reached)) in
      grind (arith, applicable-state, goes-on-reached)

  -- ---- the run of one state

  -- B holds s alone
  abbrev Alone : Belief → List Bool → Type 0
  Alone B s = B s × ((t : List Bool) → B t → t ≡ s)

  only-alone : (s : List Bool) → Alone (only s) s
  only-alone s = (refl, λ t e. e)

  entails-alone : (B : Belief) (s : List Bool) → Alone B s → (φ : Formula) → Entails B φ ↔ (eval two s φ ≡ true)
  entails-alone B s h φ = grind arith

  applicable-alone : (B : Belief) (s : List Bool) → Alone B s → (a : Action) → ApplicableIn n B a ↔ (applicable two n a s ≡ true)
  applicable-alone B s h a = grind (arith, applicable-state)

  image-alone : (a : Action) (B : Belief) (s : List Bool) → Alone B s → Alone (Image n a B) (step two n a s)
  image-alone a B s h =
      (step-image a B s h.0, λ t m. image-step a B t m ∙ ap (step two n a) (h.1 m.before m.held))

  -- what an outcome says of a plan whose first step is numbered i
  abbrev MeansFrom : Belief → List Action → ℕ → Outcome → Type 0
  MeansFrom B plan i reached = Solution n B goal plan
  MeansFrom B plan i missed = Applicable n B plan × (Entails (after n B plan) goal → ⊥)
  MeansFrom B plan i (blocked p) = (i ≤ p.step) × Blocks n B plan (record { step = p.step - i; part = p.part })

  blocks :
      (B : Belief) (before : List Action) (a : Action) (rest : List Action) (p : Stop) → length before ≡ p.step → Applicable n B before →
      (ApplicableIn n (after n B before) a → ⊥) → ((t : List Bool) → after n B before t → IsPart n t a p.part) →
      Blocks n B (before ++ (a ∷ rest)) p
  blocks B before a rest p e ok stop m = grind arith

  run-means : (plan : List Action) (i : ℕ) (B : Belief) (s : List Bool) → Alone B s → MeansFrom B plan i (run two n goal plan i s)
  unfolding run goes_on
  run-means [] i B s h = grind arith
  run-means (a ∷ plan) i B s h =
      by-test (applicable two n a s) refl (run two n goal plan (suc i) (step two n a s))
      (run-means plan (suc i) (Image n a B) (step two n a s) (image-alone a B s h))
    where
      by-test :
          (b : Bool) → applicable two n a s ≡ b → (o : Outcome) → MeansFrom (Image n a B) plan (suc i) o →
          MeansFrom B (a ∷ plan) i (goes_on b o (record { step = i; part = part_of two n a s }))
      by-test true e reached m = (((applicable-alone B s h a).1 e, m.0), m.1)
      by-test true e missed m = (((applicable-alone B s h a).1 e, m.0), m.1)
      by-test true e (blocked p) (l, b) =
          let ok : Applicable n B (a ∷ b.before) = ((applicable-alone B s h a).1 e, b.applicable) in (
            omega arith,
            rw b.parts (blocks B (a ∷ b.before) b.action b.rest _ (omega (arith, b.at)) ok b.not_applicable b.part),
          )
      by-test false e o m = (
        omega arith,
        blocks B [] a plan _ (omega arith) tt (λ g. false≢true (sym e ∙ (applicable-alone B s h a).0 g))
            (λ t m. rw (h.1 t m) (part-is n a s e)),
      )

  -- a plan whose actions are applicable runs to its end
  runs_on :
      (before rest : List Action) (i j : ℕ) (B : Belief) (s : List Bool) → j ≡ i + length before → Alone B s → Applicable n B before →
      (o : Outcome) → ((t : List Bool) → Alone (after n B before) t → run two n goal rest j t ≡ o) → run two n goal (before ++ rest) i s ≡ o
  unfolding run goes_on
  runs_on [] rest i j B s e h ap' o k = let f : j ≡ i = omega arith in rw f at (k s h)
  runs_on (a ∷ before) rest i j B s e h ap' o k = grind (arith, (runs_on before rest (suc i) j (Image n a B) (step two n a s) (omega arith) (image-alone a B s h) ap'.1 o k), (applicable-alone B s h a))

  pub outcome-means : (plan : List Action) (s : List Bool) (o : Outcome) → (run two n goal plan 0 s ≡ o) ↔ OutcomeMeans n s goal plan o
  unfolding run goes_on
  outcome-means plan s reached = grind (arith, (run-means plan 0 (only s) s (only-alone s)), solution-runs)
  outcome-means plan s missed = (
    (λ e. rw e at (run-means plan 0 (only s) s (only-alone s))),
    λ m. rw append-nil at (runs_on plan [] 0 _ (only s) s refl (only-alone s) m.0 missed λ t l. grind (arith, (entails-alone (after n (only s) plan) t l goal))),
  )
  outcome-means plan s (blocked p) = (
    (λ e. grind (arith, (run-means plan 0 (only s) s (only-alone s)))),
    λ b. rw b.parts (runs_on b.before (b.action ∷ b.rest) 0 p.step (only s) s (omega (arith, b.at)) (only-alone s) b.applicable (blocked p) λ t l. grind (arith, (is-part n b.action t p.part), (b.part t))),
  )

-- ---- the number of a state

module _ (T : Task) (n≤w : T.facts ≤ T.width) where
  -- a list of n values is a state: its number is in the case (k, v), whose facts have its values
  numbered :
      (c : List Bool) → length c ≡ T.facts → (d k v : ℕ) → k + d ≡ T.facts → Block T.width k v →
      v + 2 ^ (T.width - k) ≤ 2 ^ T.width → ((i : ℕ) → i < k → bit T.width v i ≡ get_or c i false) →
      (s : ℕ) × IsState T s × (state_of T.width T.facts s ≡ c)
  unfolding state_of
  numbered c e zero k v f b h g =
      let i : k ≡ T.facts = omega arith in (
        v,
        grind (arith, (pow_pos (T.width - k)), (mod-of-block T.width k v b)),
        grind (arith, (ext_get_or false (tabulate T.facts (bit T.width v)) c), length-tabulate, get_d_tabulate),
      )
  numbered c e (suc d) k v f b h g =
      let x = get_or c k false in
      let (low, high) = part_in T.width k v (omega arith) b x in
      numbered c e d (suc k) (part T.width k v x) (omega arith) (part-block T.width k v (omega arith) b x) (omega arith) λ i l.
      grind (arith, (agree T.width k v (part T.width k v x) i), pow_pos, (part-bit T.width k v (omega arith) b x))

  pub solution-right : Solution T.facts (initial_belief T.facts T.initial) T.goal T.plan ↔ Right T
  unfolding run_of initially state_of
  solution-right = (
    (λ h s st. grind (arith, (solution-runs T.facts T.goal T.plan 0), length-tabulate)),
    λ r.
        runs-solution T.facts T.goal T.plan 0 (initial_belief T.facts T.initial) λ c b.
        let root = root-span T.width in
        let (s, st, e) = numbered c b.0 T.facts 0 0 (omega arith) (root-block T.width) (omega arith) (λ i l. absurd (omega arith)) in
        rw e at (r s (record { state = st; starts = rw e b.1 })),
  )
