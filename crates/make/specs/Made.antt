-- The blocks that are made of a text.
use Rattle.std.specs.Prelude.{◌≡◌, List, ℕ, option_map, Result, Ok, Err}
use Rattle.model.specs.ProblemBytes.{encode_problem, encode_plan}
use Rattle.make.specs.Parsed.{bad, got}
use Rattle.make.specs.SourceText.{Source, source}
use Rattle.words.specs.declared.complaint.MakeError.{MakeError}
use Rattle.words.specs.declared.complaint.MakeError.TheVariants.{Text, OutOfMemory}
use Rattle.make.specs.declared.making.Blocks.{Blocks}

-- the blocks of what a text says
pub record BlocksOf (r : Source) (b : Blocks) : Type 0 where
  pub problem : b.problem.items ≡ encode_problem r.limits r.problem
  pub plan : option_map (λ p. p.items) b.plan ≡ option_map encode_plan r.plan

-- what making blocks of a text answers: they are those of what it says, or what is wrong is told; memory may run out
abbrev pub Makes : List ℕ → Result Blocks MakeError → Type 0
Makes t (Ok b) = (r : Source) × (left : List ℕ) × (source t ≡ got r left) × BlocksOf r b
Makes t (Err (Text c q)) = source t ≡ bad c q
Makes t (Err OutOfMemory) = Unit {0}
