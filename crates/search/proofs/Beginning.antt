-- Plans that begin alike share the cases after their first steps. Assumes nothing.
use Rattle.std.proofs.Common.{◌≡◌, refl, sym, ap, ◌∙◌, subst, List, [], ◌∷◌, ◌++◌, ℕ, zero, suc, ◌<◌, length, slice_index, Result, Ok, Err, arith, length-append, append-nil}
use native.Mathlib.Decide.{dec_lt}
use lib.ListN.{length-map, get_or-append}
use lib.Seq.{get_or-append_seam, append_snoc}
use Rattle.std.specs.Result.{result_unwrap_or}
use Rattle.model.specs.Kleene.{Kleene}
use Rattle.model.specs.Action.{Action}
use Rattle.model.specs.Case.{Task}
use Rattle.model.specs.ProblemBytes.{action_at}
use Rattle.model.specs.Operations.{task_of}
use Rattle.model.proofs.Laws.Planes.{bit-zero}
use Rattle.cases.specs.declared.cases.Cases.{Cases}
use Rattle.cases.specs.Cases.{case_of}
use Rattle.blocks.specs.declared.problem.Problem.{Problem}
use Rattle.blocks.specs.Values.{problem}
use Rattle.blocks.proofs.Tasks.{step-action}
use Rattle.step.specs.declared.action.Hindrance.{Hindrance}
use Rattle.step.specs.Actions.{Obeys}
use Rattle.runs.specs.Looks.{Reaches, GoalReached, Running}
use Rattle.runs.proofs.Running.{running-begins, reaches-none, running-next, running-stops, running-ends}
use Rattle.search.specs.declared.plan.Root.{Root}
use Rattle.search.specs.Beginning.{task_with, IsBegun}

-- ---- the task of some steps

module _ (p : Problem) (steps : List ℕ) where
  with-length : length (task_with p steps).plan ≡ length steps
  unfolding task_of
  with-length = length-map steps (action_at (problem p).actions)

  with-facts : (task_with p steps).facts ≡ p.facts
  unfolding task_of
  with-facts = refl

  with-goal : (task_with p steps).goal ≡ (problem p).goal
  unfolding task_of
  with-goal = refl

  with-action : (i : ℕ) → i < length steps → action_at (task_with p steps).plan i ≡ action_at (problem p).actions (slice_index steps i)
  unfolding task_of
  with-action i l = step-action (problem p).actions steps i l

-- ---- before the first step

pub begun-root : (root : Root) → IsBegun root [] root.starts root.lanes.now
begun-root root =
    record {
      facts = root.facts;
      named = λ i l. absurd (omega arith);
      going = λ n more. running-begins (task_with root.problem.now more) root.starts (case_of root.lanes.now);
      stopped = λ e more. reaches-none (task_with root.problem.now more) root.starts (case_of root.lanes.now) e;
    }

-- each step names an action, and so does one more
named-next :
    (m : ℕ) (first : List ℕ) (step : ℕ) → ((i : ℕ) → i < length first → slice_index first i < m) → step < m → (i : ℕ) → i < length (first ++ (step ∷ [])) →
    slice_index (first ++ (step ∷ [])) i < m
named-next m first step h l i k =
    elim (dec_lt i (length first)) [
      | yes b ↦ rw (get_or-append first (step ∷ []) 0 i b) (h i b)
      | no n ↦
          let e : i ≡ length first = omega (arith, length-append first (step ∷ [])) in
          rw (e, get_or-append_seam first step [] 0) l
    ]

module _ (root : Root) (first : List ℕ) (alive : ℕ) (c : Cases) (B : IsBegun root first alive c) (step : ℕ) (l : step < root.problem.now.actions.count) where
  abbrev p : Problem
  p = root.problem.now

  abbrev case : ℕ → List Kleene
  case = case_of root.lanes.now

  -- a step more, which was obeyed where it could be
  module _ (n : alive ≡ 0 → ⊥) (a : Action) (is : a ≡ action_at (problem p).actions step) (d : Cases) (f : d.facts ≡ c.facts) where
    abbrev T : List ℕ → Task
    T more = task_with p (first ++ step ∷ more)

    inside : (more : List ℕ) → length first < length (first ++ step ∷ more)
    inside more = omega (arith, length-append first (step ∷ more))

    more-steps : (more : List ℕ) → length first < length (T more).plan
    more-steps more = omega (arith, with-length p (first ++ step ∷ more), inside more)

    same : (more : List ℕ) → c.facts ≡ (T more).facts
    same more = B.facts ∙ sym (with-facts p (first ++ step ∷ more))

    is-next : (more : List ℕ) → a ≡ action_at (T more).plan (length first)
    is-next more =
        is ∙ ap (action_at (problem p).actions) (sym (get_or-append_seam first step more 0)) ∙ sym (with-action p (first ++ step ∷ more) (length first) (inside more))

    next-begun : (r : Result ℕ Hindrance) → Obeys c a alive d r → IsBegun root (first ++ (step ∷ [])) (result_unwrap_or r 0) d
    next-begun (Ok lanes) G =
        record {
          facts = f ∙ B.facts;
          named = named-next p.actions.count first step B.named l;
          going =
              λ m more.
              rw (append_snoc first step more, length-append first (step ∷ []))
              (running-next (T more) root.starts case (length first) alive c (B.going n (step ∷ more)) (more-steps more) (same more) a (is-next more) d lanes G);
          stopped = λ z more. absurd (G.some z);
        }
    next-begun (Err h) H =
        record {
          facts = f ∙ B.facts;
          named = named-next p.actions.count first step B.named l;
          going = λ m more. absurd (m refl);
          stopped =
              λ z more.
              rw (append_snoc first step more)
              (running-stops (T more) root.starts case (length first) alive c (B.going n (step ∷ more)) (more-steps more) (same more) a (is-next more) d h H);
        }

    pub begun-next :
        (r : Result ℕ Hindrance) → Obeys c a alive d r → (next : List ℕ) → next ≡ first ++ (step ∷ []) → (going : ℕ) → going ≡ result_unwrap_or r 0 →
        IsBegun root next going d
    begun-next r O next e going k = rw (e, k) (next-begun r O)

-- ---- the last step was obeyed

pub reached-so :
    (root : Root) (first : List ℕ) (alive : ℕ) (c : Cases) → IsBegun root first alive c → (r : ℕ) → GoalReached (problem root.problem.now).goal (case_of c) alive r →
    Reaches (task_with root.problem.now first) root.starts (case_of root.lanes.now) r
reached-so root first zero c B r g =
    let R = subst (λ (steps : List ℕ). Reaches (task_with root.problem.now steps) root.starts (case_of root.lanes.now) 0) (append-nil first) (B.stopped refl []) in
    λ j l. g j l ∙ rw (bit-zero j) (omega arith) ∙ sym (bit-zero j) ∙ R j l
reached-so root first (suc n) c B r g =
    let p = root.problem.now in
    let R = subst (λ (steps : List ℕ). Running (task_with p steps) root.starts (case_of root.lanes.now) (length first) (suc n) (case_of c)) (append-nil first) (B.going (λ e. cc) []) in
    running-ends (task_with p first) root.starts (case_of root.lanes.now) (length first) (suc n) (case_of c) R (omega (arith, with-length p first)) r (rw (with-goal p first) g)
