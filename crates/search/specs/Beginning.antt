-- Plans that begin alike.
use Rattle.std.specs.Prelude.{◌≡◌, List, ◌++◌, ℕ, ◌<◌, length, slice_index}
use Rattle.model.specs.Case.{Task}
use Rattle.model.specs.Operations.{task_of}
use Rattle.cases.specs.declared.cases.Cases.{Cases}
use Rattle.cases.specs.Cases.{case_of}
use Rattle.blocks.specs.declared.problem.Problem.{Problem}
use Rattle.blocks.specs.Values.{problem}
use Rattle.runs.specs.Looks.{Reaches, Running}
use Rattle.search.specs.declared.plan.Root.{Root}

-- the task that these steps make of the problem
abbrev pub task_with : Problem → List ℕ → Task
task_with p = task_of p.limits (problem p)

-- in the first block, the lanes that go on after the steps of `first` and their cases, whatever steps come after these
pub record IsBegun (root : Root) (first : List ℕ) (alive : ℕ) (cases : Cases) : Type 0 where
  pub facts : cases.facts ≡ root.problem.now.facts
  pub named : (i : ℕ) → i < length first → slice_index first i < root.problem.now.actions.count
  pub going :
      (alive ≡ 0 → ⊥) → (more : List ℕ) →
      Running (task_with root.problem.now (first ++ more)) root.starts (case_of root.lanes.now) (length first) alive (case_of cases)
  pub stopped : alive ≡ 0 → (more : List ℕ) → Reaches (task_with root.problem.now (first ++ more)) root.starts (case_of root.lanes.now) 0
