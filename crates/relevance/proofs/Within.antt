-- A task that was read names declared facts only, and has few steps. Assumes nothing.
use Rattle.std.proofs.Common.{◌≡◌, sym, subst, Bool, true, false, cond, inl, inr, List, [], ◌∷◌, ℕ, zero, suc, ◌+◌, ◌≤◌, ◌<◌, arith, length, get_or, eqb-true}
use mathlib.Core.Bool.{false≢true}
use lib.ListN.{length-map}
use Rattle.model.specs.{declared.Limits.Limits, Limits.limits_of, Limits.max_depth, Limits.max_steps}
use Rattle.model.specs.Formula.{Literal, fact, denial, Formula, Formulas, lit, all, any, none, more}
use Rattle.model.specs.{Action.Effect, Action.Action, Action.same_literal, Action.condition_in, Answer.answered, Case.Task, Relevance.names, Relevance.member_names}
use Rattle.model.specs.{FormulaBytes.literal_byte, ProblemBytes.Problem, ProblemBytes.action_at}
use Rattle.model.specs.WellFormed.{Bytes, Each, Formed, FormedAll, EffectsOk, ActionOk, ProblemOk, PlanOk}
use Rattle.model.specs.Operations.{task_of, read_task}
use Rattle.model.proofs.{Laws.Truth.or_cases, Laws.Tasks.answer-then, Guarantees.guarantees-of}
use Rattle.blocks.proofs.Tasks.{step-action}
use Rattle.backward.specs.Marks.{WithinAction, WithinTask}

mutual
  unfolding names Formed

  formed-within : (φ : Formula) (facts left parent : ℕ) → Formed facts left parent φ → (f : ℕ) → names φ f ≡ true → f < facts
  formed-within (lit (fact g)) facts left parent d f e = omega (arith, eqb-true g f e)
  formed-within (lit (denial g)) facts left parent d f e = omega (arith, eqb-true g f e)
  formed-within (all ms) facts left parent d f e = members-within ms facts _ _ d.3 f e
  formed-within (any ms) facts left parent d f e = members-within ms facts _ _ d.3 f e

  members-within : (ms : Formulas) (facts left parent : ℕ) → FormedAll facts left parent ms → (f : ℕ) → member_names ms f ≡ true → f < facts
  members-within none facts left parent d f e = absurd (false≢true e)
  members-within (more m ms) facts left parent d f e =
      elim (or_cases (names m f) _ e) [ inl h ↦ formed-within m facts left parent d.0 f h | inr h ↦ members-within ms facts left parent d.1 f h ]

abbrev Within : ℕ → Formula → Type 0
Within n φ = (f : ℕ) → names φ f ≡ true → f < n

chosen-within : (n : ℕ) (b : Bool) (φ ψ : Formula) → Within n φ → Within n ψ → Within n (cond b φ ψ)
chosen-within n true φ ψ h k = h
chosen-within n false φ ψ h k = k

condition-within : (n least : ℕ) (es : List Effect) → EffectsOk n least es → (l : Literal) (found : Formula) → Within n found → Within n (condition_in found l es)
unfolding condition_in
condition-within n least [] ok l found d = d
condition-within n least (e ∷ es) ok l found d =
    condition-within n (literal_byte e.literal + 1) es ok.3 l _
    (chosen-within n (same_literal l e.literal) e.condition found (formed-within e.condition n max_depth 0 ok.2.formed) d)

nothing-within : (n : ℕ) → Within n (any none)
unfolding names
nothing-within n f e = absurd (false≢true e)

action-within : (F : Limits) (n : ℕ) (a : Action) → ActionOk F n a → WithinAction n a
action-within F n a ok f = (
  formed-within a.precondition n max_depth 0 ok.precondition.formed f,
  λ l. condition-within n 0 a.effects ok.effects l (any none) (nothing-within n) f,
)

each-at : {A : Type 0} (P : A → Type 0) (l : List A) (i : ℕ) (d : A) → Each P l → i < length l → P (get_or l i d)
each-at P [] i d e h = absurd (omega arith)
each-at P (x ∷ l) zero d e h = e.0
each-at P (x ∷ l) (suc i) d e h = each-at P l i d e.1 (omega arith)

module _ (F : Limits) (p : Problem) (steps : List ℕ) (ok : ProblemOk F p) (fine : PlanOk (length p.actions) steps) where
  task-within : WithinTask (task_of F p steps)
  unfolding task_of action_at
  task-within =
      record {
        goal = formed-within p.goal p.facts max_depth 0 ok.goal.formed;
        actions =
            λ i l.
            let h : i < length steps = omega (arith, length-map steps (action_at p.actions)) in
            subst (WithinAction p.facts) (sym (step-action p.actions steps i h))
            (action-within F p.facts _ (each-at (ActionOk F p.facts) p.actions _ _ ok.actions (each-at (λ b. b < length p.actions) steps i 0 fine.actions h)));
      }

  task-short : length (task_of F p steps).plan ≤ max_steps
  unfolding task_of
  task-short = omega (arith, length-map steps (action_at p.actions), fine.count)

pub read-within :
    (problem plan : List ℕ) → Bytes problem → Bytes plan → (T : Task) → read_task (limits_of problem) problem plan ≡ answered T → WithinTask T × (length T.plan ≤ max_steps)
unfolding read_task
read-within problem plan b d T h =
    answer-then h λ p e h₁.
    answer-then h₁ λ steps k h₂.
    let t : task_of (limits_of problem) p steps ≡ T = cc in
    let ok = ((guarantees-of problem).all_input.problem_sound problem b p e).0 in
    let fine = ((guarantees-of problem).all_input.plan_sound plan d (length p.actions) steps k).0 in
    subst (λ (x : Task). WithinTask x × (length x.plan ≤ max_steps)) t (task-within (limits_of problem) p steps ok fine, task-short (limits_of problem) p steps ok fine)
