-- How long the text of a problem and of a plan is at most.
use Rattle.std.specs.Prelude.{◌≡◌, List, ℕ, ◌≤◌, length}
use Rattle.model.specs.Limits.{limits_of}
use Rattle.model.specs.Answer.{answered}
use Rattle.model.specs.ProblemBytes.{Problem, problem_of, plan_of}
use Rattle.model.specs.WellFormed.{Bytes}
use Rattle.names.specs.Names.{Names, NamesOk}
use Rattle.names.specs.ProblemText.{problem_text, plan_text}

-- so many bytes a problem is shown in at most, and a plan
abbrev pub max_problem_text : ℕ
max_problem_text = 8435274

abbrev pub max_plan_text : ℕ
max_plan_text = 66053

-- whatever names a problem is shown with
abbrev pub ProblemIsShort : Type 0
ProblemIsShort =
    (N : Names) (block : List ℕ) (p : Problem) →
    Bytes block → problem_of (limits_of block) block ≡ answered p → NamesOk N p.facts (length p.actions) →
    length (problem_text N (limits_of block) p) ≤ max_problem_text

-- and whatever names a plan is shown with, for so many actions
abbrev pub PlanIsShort : Type 0
PlanIsShort =
    (N : Names) (plan : List ℕ) (facts actions : ℕ) (steps : List ℕ) →
    Bytes plan → plan_of plan actions ≡ answered steps → NamesOk N facts actions → length (plan_text N steps) ≤ max_plan_text
