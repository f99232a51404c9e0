-- All input, of the code: a block is accepted exactly if it is sound. Each is an `ensures` of its operation, so that every element is a byte
-- by the slice's type, and by no hypothesis.
use Rattle.std.specs.Prelude.{◌≡◌, ◌⊎◌, List, ℕ, length}
use Rattle.model.specs.Limits.{limits_of}
use Rattle.model.specs.Answer.{Answer, refused, answered}
use Rattle.model.specs.ProblemBytes.{Problem, problem_of, plan_of, encode_problem, encode_plan}
use Rattle.model.specs.declared.Counts.{Counts}
use Rattle.model.specs.WellFormed.{ProblemOk, PlanOk}

-- the bytes hold the sound problem p; the sound plan `steps` for m actions
abbrev pub HoldsProblem : List ℕ → Problem → Type 0
HoldsProblem problem p = ProblemOk (limits_of problem) p × (problem ≡ encode_problem (limits_of problem) p)

abbrev pub HoldsPlan : List ℕ → ℕ → List ℕ → Type 0
HoldsPlan plan m steps = PlanOk m steps × (plan ≡ encode_plan steps)

-- what a refusal of `read_plan` is of: the problem's own; or the plan's, for the actions of a problem that was read
abbrev pub PlanRefusedFor : List ℕ → List ℕ → ℕ → ℕ → Type 0
PlanRefusedFor problem plan n q =
    (problem_of (limits_of problem) problem ≡ refused n q) ⊎
    ((p : Problem) × (problem_of (limits_of problem) problem ≡ answered p) × (plan_of plan (length p.actions) ≡ refused n q))

-- What an answer of `read_problem` promises. A refusal has the number and the place of the reading, and no sound problem has these bytes.
abbrev pub ProblemPromised : List ℕ → Answer Counts → Type 0
ProblemPromised problem (refused n q) = (problem_of (limits_of problem) problem ≡ refused n q) × ((p : Problem) → HoldsProblem problem p → ⊥)
ProblemPromised problem (answered c) =
    (p : Problem) × HoldsProblem problem p × (c ≡ record { facts = p.facts; actions = length p.actions })

-- What an answer of `read_plan` promises. A refusal has the number and the place of one of the two readings, and no sound pair has these bytes.
abbrev pub PlanPromised : List ℕ → List ℕ → Answer ℕ → Type 0
PlanPromised problem plan (refused n q) =
    PlanRefusedFor problem plan n q ×
    ((p : Problem) (steps : List ℕ) → HoldsProblem problem p → HoldsPlan plan (length p.actions) steps → ⊥)
PlanPromised problem plan (answered m) =
    (p : Problem) × (steps : List ℕ) × HoldsProblem problem p × HoldsPlan plan (length p.actions) steps × (m ≡ length steps)
