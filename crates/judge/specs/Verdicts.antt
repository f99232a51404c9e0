-- The verdict by the walk of a whole task.
use Rattle.std.specs.Prelude.{◌≡◌, List, ℕ}
use Rattle.model.specs.Case.{Task}
use Rattle.model.specs.Walk.{Line, Verdict, right, wrong, undecided, judged}
use Rattle.model.specs.Operations.{line_count}
use Rattle.model.specs.Answers as Answers
use Rattle.model.specs.declared.Verdict as declared

-- the lines of a right verdict are those
abbrev pub HasLines : List Line → Verdict (List Line) → Type 0
HasLines closed (right ls a) = closed ≡ ls
HasLines closed (wrong s o a) = Unit {0}
HasLines closed (undecided a) = Unit {0}

-- the verdict on the task, and what became of its lines
pub record JudgesTask {L : Type 0} (puts : L → List Line → L → Type 0) (T : Task) (g : ℕ) (old : L) (r : declared.Verdict) (new : L) : Type 0 where
  pub closed : List Line
  pub put : puts old closed new
  pub answer : Answers.verdict r ≡ line_count (judged T g)
  pub lines : HasLines closed (judged T g)
