-- What is shown may be read as a text: no text is longer than the file of one may be.
use Rattle.std.specs.Prelude.{◌≡◌, List, ◌++◌, ℕ, ◌≤◌, length}
use Rattle.model.specs.Limits.{limits_of}
use Rattle.model.specs.Answer.{answered}
use Rattle.model.specs.ProblemBytes.{Problem, problem_of, plan_of}
use Rattle.model.specs.WellFormed.{Bytes}
use Rattle.names.specs.Names.{Names, NamesOk}
use Rattle.names.specs.ProblemText.{problem_text, plan_text}
use Rattle.files.specs.Roles.{most_bytes}
use Rattle.files.specs.declared.role.Role.TheVariants.{Text}

-- whatever names a problem is shown with
abbrev pub ShownMayBeRead : Type 0
ShownMayBeRead =
    (N : Names) (block : List ℕ) (p : Problem) →
    Bytes block → problem_of (limits_of block) block ≡ answered p → NamesOk N p.facts (length p.actions) →
    length (problem_text N (limits_of block) p) ≤ most_bytes Text

-- and a problem and a plan
abbrev pub ShownPlanMayBeRead : Type 0
ShownPlanMayBeRead =
    (N : Names) (block plan : List ℕ) (p : Problem) (steps : List ℕ) →
    Bytes block → Bytes plan → problem_of (limits_of block) block ≡ answered p → plan_of plan (length p.actions) ≡ answered steps →
    NamesOk N p.facts (length p.actions) →
    length (problem_text N (limits_of block) p ++ plan_text N steps) ≤ most_bytes Text
