-- What holds of the blocks that are made of a text.
use Rattle.std.specs.Prelude.{◌≡◌, List, ◌++◌, ℕ, ◌≤◌, length, Option, Some, None, option_map, Result, Ok, Err}
use Rattle.model.specs.Limits.{limits_of, max_facts, max_actions}
use Rattle.model.specs.Answer.{answered}
use Rattle.model.specs.ProblemBytes.{Problem, problem_of, plan_of}
use Rattle.model.specs.WellFormed.{Bytes}
use Rattle.names.specs.Names.{Names, numbers, NamesOk}
use Rattle.names.specs.ProblemText.{problem_text, plan_text}
use Rattle.make.specs.Parsed.{got}
use Rattle.make.specs.SourceText.{Source, source}
use Rattle.make.specs.Made.{Makes}
use Rattle.words.specs.declared.complaint.MakeError.{MakeError}
use Rattle.words.specs.declared.complaint.MakeError.TheVariants.{Text, OutOfMemory}
use Rattle.make.specs.declared.making.Blocks.{Blocks}

-- these blocks were made, byte for byte, or memory ran out: nothing was wrong
abbrev pub MadeInto : List ℕ → Option (List ℕ) → Result Blocks MakeError → Type 0
MadeInto problem plan (Ok b) = (b.problem.items ≡ problem) × (option_map (λ p. p.items) b.plan ≡ plan)
MadeInto problem plan (Err (Text c q)) = ⊥
MadeInto problem plan (Err OutOfMemory) = Unit {0}

-- round trip: whatever names a problem is shown with, its text is made into the block that was shown
abbrev pub ShownIsMade : Type 0
ShownIsMade =
    (N : Names) (block : List ℕ) (p : Problem) (made : Result Blocks MakeError) →
    Bytes block → problem_of (limits_of block) block ≡ answered p → NamesOk N p.facts (length p.actions) →
    Makes (problem_text N (limits_of block) p) made → MadeInto block None made

-- and so is the text of a problem and a plan
abbrev pub ShownPlanIsMade : Type 0
ShownPlanIsMade =
    (N : Names) (block plan : List ℕ) (p : Problem) (steps : List ℕ) (made : Result Blocks MakeError) →
    Bytes block → Bytes plan → problem_of (limits_of block) block ≡ answered p → plan_of plan (length p.actions) ≡ answered steps →
    NamesOk N p.facts (length p.actions) →
    Makes (problem_text N (limits_of block) p ++ plan_text N steps) made → MadeInto block (Some plan) made

-- the numbers of facts and actions are names of every problem
abbrev pub NumbersAreNames : Type 0
NumbersAreNames = (facts actions : ℕ) → facts ≤ max_facts → actions ≤ max_actions → NamesOk numbers facts actions

-- the blocks are read as what a text says: the version, the problem, and the plan, where it has one; where it has none, there is none
pub record ReadAgain (t : List ℕ) (b : Blocks) : Type 0 where
  pub says : Source
  pub left : List ℕ
  pub said : source t ≡ got says left
  pub version : limits_of b.problem.items ≡ says.limits
  pub problem : problem_of (limits_of b.problem.items) b.problem.items ≡ answered says.problem
  pub plan :
      (steps : List ℕ) → says.plan ≡ Some steps →
      (block : List ℕ) × (option_map (λ p. p.items) b.plan ≡ Some block) × (plan_of block (length says.problem.actions) ≡ answered steps)
  pub no_plan : says.plan ≡ None → b.plan ≡ None

-- made problems are read: whatever text was made into blocks
abbrev pub MadeIsRead : Type 0
MadeIsRead = (t : List ℕ) (b : Blocks) → Makes t (Ok b) → ReadAgain t b
