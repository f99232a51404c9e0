-- A state of a merged problem is a pair of states, and its plans are right where both halls' are. Assumes nothing.
use Rattle.std.proofs.Common.{◌≡◌, refl, sym, ap, ap₂, ◌∙◌, ◌↔◌, Bool, ◌&&◌, List, ◌++◌, ℕ, ◌+◌, ◌≤◌, arith, length, take, drop, length-append, length-take, length-drop}
use Rattle.std.proofs.Math.Seq.{take-append_seam, drop-append_seam}
use Rattle.std.proofs.lemmas.List.{take-append-drop}
use Rattle.model.specs.declared.Limits.{Limits}
use Rattle.model.specs.{Limits.version2, Run.Outcome, Run.reached}
use Rattle.model.specs.Case.{state_of, Task, run_of, initially, IsState, IsStart, Right}
use Rattle.model.specs.{Relevance.number_of, ProblemBytes.Problem, Operations.task_of, Merging.halls}
use Rattle.model.specs.WellFormed.{PlanOk, ProblemOk, Sensible}
use Rattle.model.proofs.Laws.{Truth.and-true, Truth.and_both, Relevance.start-length}
use Rattle.model.proofs.Laws.States.{number-is-state, values-of-number, number-of-values}
use Rattle.merge.specs.Beside.{of_first, of_second, in_merged, beside, together, first_alone, second_alone, pair, AreStates, RunsBeside}
use Rattle.merge.proofs.{Acting.both-holds, Steps.first-ok, Steps.second-ok, Running.runs}

-- ---- two lists after one another

append-parts : {X : Type 0} (xs ys xs' ys' : List X) → length xs ≡ length xs' → xs ++ ys ≡ xs' ++ ys' → (xs ≡ xs') × (ys ≡ ys')
append-parts xs ys xs' ys' e h = (
  sym (take-append_seam xs ys) ∙ ap₂ take e h ∙ take-append_seam xs' ys',
  sym (drop-append_seam xs ys) ∙ ap₂ drop e h ∙ drop-append_seam xs' ys',
)

-- ---- two runs beside one another

both-reached :
    (a b : List Bool) (m n : ℕ) (x y : Outcome) → beside (in_merged a m x) (in_merged b n y) ≡ reached → (x ≡ reached) × (y ≡ reached)
both-reached a b m n x y e = grind arith

-- ---- the merged problem

module _ (F G : Limits) (S : Sensible F) (S' : Sensible G) (p q : Problem) (ok : ProblemOk F p) (ok' : ProblemOk G q) (sound : ProblemOk version2 (halls p q))
    (plan : List ℕ) (h : PlanOk (length p.actions + length q.actions) plan) where
  abbrev whole-task : Task
  whole-task = together F G p q plan

  abbrev first-task : Task
  first-task = first_alone F G p q plan

  abbrev second-task : Task
  second-task = second_alone F G p q plan

  abbrev firsts : List Bool
  firsts = of_first (length p.actions) plan

  abbrev seconds : List Bool
  seconds = of_second (length p.actions) plan

  abbrev pair-of : ℕ → ℕ → ℕ
  pair-of = pair F G p q plan

  abbrev AreHalves : ℕ → ℕ → Type 0
  AreHalves = AreStates F G p q plan

  whole-within : whole-task.facts ≤ whole-task.width
  unfolding task_of
  whole-within = sound.facts

  first-within : first-task.facts ≤ first-task.width
  unfolding task_of
  first-within = omega (arith, S.width, ok.facts)

  second-within : second-task.facts ≤ second-task.width
  unfolding task_of
  second-within = omega (arith, S'.width, ok'.facts)

  abbrev first-values : ℕ → List Bool
  first-values s = state_of F.width p.facts s

  abbrev second-values : ℕ → List Bool
  second-values t = state_of G.width q.facts t

  first-length : (s : ℕ) → length (first-values s) ≡ p.facts
  unfolding task_of
  first-length s = start-length first-task first-within s

  second-length : (t : ℕ) → length (second-values t) ≡ q.facts
  unfolding task_of
  second-length t = start-length second-task second-within t

  pair-length : (s t : ℕ) → length (first-values s ++ second-values t) ≡ p.facts + q.facts
  pair-length s t = length-append (first-values s) (second-values t) ∙ ap₂ (λ (x y : ℕ). x + y) (first-length s) (second-length t)

  -- a pair's values are those of both
  pair-values : (s t : ℕ) → state_of version2.width (p.facts + q.facts) (pair-of s t) ≡ first-values s ++ second-values t
  unfolding task_of
  pair-values s t = values-of-number whole-task whole-within (first-values s ++ second-values t) (pair-length s t)

  pair-is-state : (s t : ℕ) → IsState whole-task (pair-of s t)
  unfolding task_of
  pair-is-state s t = number-is-state whole-task whole-within (first-values s ++ second-values t) (pair-length s t)

  -- the parts of a state's values are those of a state of each hall
  parts-are : (u : ℕ) → IsState whole-task u → (s t : ℕ) × AreHalves s t × (u ≡ pair-of s t)
  unfolding task_of
  parts-are u st =
      let c = state_of version2.width (p.facts + q.facts) u in
      let z : length c ≡ p.facts + q.facts = start-length whole-task whole-within u in
      let a = take p.facts c in
      let b = drop p.facts c in
      let za : length a ≡ p.facts = grind (arith, length-take) in
      let zb : length b ≡ q.facts = omega (arith, length-drop p.facts c) in
      let va : first-values (number_of F.width a) ≡ a = values-of-number first-task first-within a za in
      let vb : second-values (number_of G.width b) ≡ b = values-of-number second-task second-within b zb in
      let joined = ap₂ (λ (x y : List Bool). x ++ y) va vb ∙ take-append-drop p.facts c in (
        number_of F.width a,
        number_of G.width b,
        (number-is-state first-task first-within a za, number-is-state second-task second-within b zb),
        sym (number-of-values whole-task whole-within u st) ∙ ap (number_of version2.width) (sym joined),
      )

  -- and of no other states
  one-pair : (s t s' t' : ℕ) → AreHalves s t → AreHalves s' t' → pair-of s t ≡ pair-of s' t' → (s ≡ s') × (t ≡ t')
  unfolding task_of
  one-pair s t s' t' st st' e =
      let v = sym (pair-values s t) ∙ ap (state_of version2.width (p.facts + q.facts)) e ∙ pair-values s' t' in
      let (h, k) = append-parts (first-values s) (second-values t) (first-values s') (second-values t') (first-length s ∙ sym (first-length s')) v in (
        sym (number-of-values first-task first-within s st.0) ∙ ap (number_of F.width) h ∙ number-of-values first-task first-within s' st'.0,
        sym (number-of-values second-task second-within t st.1) ∙ ap (number_of G.width) k ∙ number-of-values second-task second-within t' st'.1,
      )

  -- ---- start states

  pair-starts : (s t : ℕ) → initially whole-task (pair-of s t) ≡ (initially first-task s && initially second-task t)
  unfolding task_of initially
  pair-starts s t = rw (pair-values s t) (both-holds p.facts q.facts (first-values s) (second-values t) (first-length s) (second-length t) p.initial q.initial ok.initial ok'.initial)

  starts-both : (s t : ℕ) → AreHalves s t → IsStart whole-task (pair-of s t) ↔ (IsStart first-task s × IsStart second-task t)
  starts-both s t st = (
    (λ h.
        let (a, b) = and-true (initially first-task s) (initially second-task t) (sym (pair-starts s t) ∙ h.starts) in
        (record { state = st.0; starts = a }, record { state = st.1; starts = b })),
    λ h. record { state = pair-is-state s t; starts = pair-starts s t ∙ and_both _ _ h.0.starts h.1.starts },
  )

  -- ---- runs

  pair-runs :
      (s t : ℕ) →
      run_of whole-task (pair-of s t) ≡ beside (in_merged firsts 0 (run_of first-task s)) (in_merged seconds p.facts (run_of second-task t))
  unfolding task_of run_of
  pair-runs s t = rw (pair-values s t) (runs F G p q ok ok' plan h.actions (first-values s) (second-values t) (first-length s) (second-length t))

  -- a right plan of the merged problem is right from both parts of a start state
  pair-right :
      (s t : ℕ) → Right whole-task → IsStart first-task s → IsStart second-task t → (run_of first-task s ≡ reached) × (run_of second-task t ≡ reached)
  pair-right s t r h k =
      both-reached firsts seconds 0 p.facts (run_of first-task s) (run_of second-task t)
      (sym (pair-runs s t) ∙ r (pair-of s t) ((starts-both s t (h.state, k.state)).1 (h, k)))

  -- a start state of the merged problem is a pair of start states
  start-parts : (u : ℕ) → IsStart whole-task u → (s t : ℕ) × IsStart first-task s × IsStart second-task t × (u ≡ pair-of s t)
  start-parts u h =
      let (s, t, st, e) = parts-are u h.state in
      let (a, b) = (starts-both s t st).0 (rw e at h) in
      (s, t, a, b, e)

  -- and from both halls' it is right
  right-both : Right first-task → Right second-task → Right whole-task
  right-both r r' u h =
      let (s, t, a, b, e) = start-parts u h in
      rw e (pair-runs s t ∙ rw (r s a, r' t b) refl)

  pub runs-beside : RunsBeside F G p q plan
  runs-beside =
      record {
        first_ok = first-ok (length p.actions) (length q.actions) plan h;
        second_ok = second-ok (length p.actions) (length q.actions) plan h;
        is_state = λ s t st. pair-is-state s t;
        is_pair = parts-are;
        one_pair = one-pair;
        starts = starts-both;
        runs = λ s t st. pair-runs s t;
        right = λ a b. ((λ r. ((λ s h. (pair-right s b.0 r h b.1).0), λ t h. (pair-right a.0 t r a.1 h).1)), λ r. right-both r.0 r.1);
        no_first = λ none u h. let (s, t, a, b, e) = start-parts u h in absurd (none (s, a));
        no_second = λ none u h. let (s, t, a, b, e) = start-parts u h in absurd (none (t, b));
      }
