-- All input, of the code: from the equation with the definition and the theorem about the definitions. Assumes nothing.
use Rattle.std.proofs.Common.{◌≡◌, refl, sym, ap, ◌∙◌, inl, inr, List, ℕ, arith, length, get_or, w8, Fits}
use Rattle.model.specs.{Limits.limits_of, Answer.Answer, Answer.refused, Answer.answered, declared.Counts.Counts}
use Rattle.model.specs.{ProblemBytes.Problem, ProblemBytes.problem_of, ProblemBytes.plan_of, Operations.read_problem, Operations.read_plan, WellFormed.Bytes}
use Rattle.model.specs.Answer as Answer
use Rattle.model.proofs.{Laws.Tasks.answer-then, Laws.Tasks.refusal-of, Guarantees.guarantees-of}
use Rattle.blocks.specs.Promise.{HoldsProblem, PlanRefusedFor, ProblemPromised, PlanPromised}

-- the elements of a slice of bytes are bytes
abbrev pub OfSlice : List ℕ → Type 0
OfSlice s = (i : ℕ) → Fits w8 (get_or s i 0)

pub of-slice : (s : List ℕ) → OfSlice s → Bytes s
of-slice s h i = omega (arith, h i)

-- what is answered is not refused
pub not-refused : {A : Type 0} {x : Answer A} {a : A} {n q : ℕ} → x ≡ answered a → x ≡ refused n q → ⊥
not-refused e f = cc

-- the readers' own number and place
plan-refusal : (problem plan : List ℕ) (n q : ℕ) → read_plan (limits_of problem) problem plan ≡ refused n q → PlanRefusedFor problem plan n q
unfolding read_plan
plan-refusal problem plan n q e =
    elim (refusal-of (problem_of (limits_of problem) problem) e) [
      | inl h ↦ inl h
      | inr (p, h, k) ↦
          elim (refusal-of (plan_of plan (length p.actions)) k) [ inl l ↦ inr (p, h, l) | inr (steps, l, m) ↦ absurd (cc) ]
    ]

-- a sound problem is read
accepted : (problem : List ℕ) (p : Problem) → HoldsProblem problem p → problem_of (limits_of problem) problem ≡ answered p
accepted problem p (k, z) =
    let F = limits_of problem in
    ap (problem_of F) z ∙ (guarantees-of problem).all_input.problem_accepted p k

pub problem-promised : (problem : List ℕ) → OfSlice problem → (r : Answer Counts) → r ≡ read_problem (limits_of problem) problem → ProblemPromised problem r
unfolding read_problem Answer.◌>>=◌
problem-promised problem b (refused n q) e = (
  elim (refusal-of (problem_of (limits_of problem) problem) (sym e)) [ inl h ↦ h | inr (p, h, k) ↦ absurd (cc) ],
  λ p sound. not-refused (rw (accepted problem p sound) at e) refl,
)
problem-promised problem b (answered c) e =
    answer-then (sym e) λ p h k. (p, (guarantees-of problem).all_input.problem_sound problem (of-slice problem b) p h, cc)

pub plan-promised :
    (problem plan : List ℕ) → OfSlice problem → OfSlice plan → (r : Answer ℕ) → r ≡ read_plan (limits_of problem) problem plan → PlanPromised problem plan r
unfolding read_plan Answer.◌>>=◌
plan-promised problem plan b d (refused n q) e = (
  plan-refusal problem plan n q (sym e),
  λ p steps sound (l, y).
      let a = rw (accepted problem p sound, y, Answer.◌>>=◌, (guarantees-of problem).all_input.plan_accepted (length p.actions) steps l) at e in
      not-refused a refl,
)
plan-promised problem plan b d (answered m) e =
    answer-then (sym e) λ p h₁ k₁.
    answer-then k₁ λ steps h₂ k₂.
    (p, steps, (guarantees-of problem).all_input.problem_sound problem (of-slice problem b) p h₁, (guarantees-of problem).all_input.plan_sound plan (of-slice plan d) (length p.actions) steps h₂, cc)
