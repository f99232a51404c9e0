-- What holds of the texts alone, before any block is made of them: the statements that the theorems stand on.
use Rattle.std.specs.Prelude.{◌≡◌, List, [], ◌∷◌, ◌++◌, ℕ, length, Some, None}
use Rattle.model.specs.Limits.{limits_of}
use Rattle.model.specs.Answer.{answered}
use Rattle.model.specs.ProblemBytes.{Problem, problem_of, plan_of, encode_problem, encode_plan}
use Rattle.model.specs.WellFormed.{Bytes}
use Rattle.names.specs.Names.{Names, NamesOk}
use Rattle.names.specs.ProblemText.{problem_text, plan_text}
use Rattle.make.specs.Parsed.{got}
use Rattle.make.specs.SourceText.{Source, source}

-- the text of the problem in a block says the problem; nothing is left of it but the end of its last line
abbrev pub ShownIsSaid : Type 0
ShownIsSaid =
    (N : Names) (block : List ℕ) (p : Problem) → Bytes block → problem_of (limits_of block) block ≡ answered p → NamesOk N p.facts (length p.actions) →
    (source (problem_text N (limits_of block) p) ≡ got (record { limits = limits_of block; problem = p; plan = None }) (10 ∷ [])) ×
    (encode_problem (limits_of block) p ≡ block)

abbrev pub ShownPlanIsSaid : Type 0
ShownPlanIsSaid =
    (N : Names) (block plan : List ℕ) (p : Problem) (steps : List ℕ) → Bytes block → Bytes plan →
    problem_of (limits_of block) block ≡ answered p → plan_of plan (length p.actions) ≡ answered steps → NamesOk N p.facts (length p.actions) →
    (source (problem_text N (limits_of block) p ++ plan_text N steps) ≡ got (record { limits = limits_of block; problem = p; plan = Some steps }) (10 ∷ [])) ×
    (encode_plan steps ≡ plan)

-- what a text says is sound, so that its blocks are read
abbrev pub SaidIsRead : Type 0
SaidIsRead =
    (t left : List ℕ) (r : Source) → source t ≡ got r left →
    (limits_of (encode_problem r.limits r.problem) ≡ r.limits) ×
    (problem_of r.limits (encode_problem r.limits r.problem) ≡ answered r.problem) ×
    ((steps : List ℕ) → r.plan ≡ Some steps → plan_of (encode_plan steps) (length r.problem.actions) ≡ answered steps)
