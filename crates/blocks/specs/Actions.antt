-- Where the actions of a problem stand in its block.
use Rattle.std.specs.Prelude.{◌≡◌, IsTrue, List, ℕ, suc, ◌+◌, ◌≤◌, ◌<◌, length, drop, slice_index, leb}
use Rattle.model.specs.declared.Limits.{Limits}
use Rattle.model.specs.Action.{Action, tabulate}
use Rattle.model.specs.Read.{Reader, ◌>>=◌, ◌>>◌, done, position, require}
use Rattle.model.specs.ProblemBytes.{Problem, actions, action_bytes, encode_problem}
use Rattle.model.specs.Limits.{max_formula_bytes, max_problem_bytes}
use Rattle.model.specs.FormulaBytes.{formula_bytes}
use Rattle.fields.specs.ActionBytes.{action_of, is_action}

-- each of m actions begins where `at` says
abbrev pub Begin : ℕ → ℕ → List ℕ → List ℕ → Type 0
Begin facts m at block = (i : ℕ) → i < m → (slice_index at i ≤ length block) × IsTrue (is_action facts (drop (slice_index at i) block))

-- and ends inside the block, where its own bytes do, which is where the next one begins
pub record Ends (at block : List ℕ) (i : ℕ) : Type 0 where
  pub next : slice_index at (suc i) ≡ slice_index at i + length (action_bytes (action_of (drop (slice_index at i) block)))
  pub inside : slice_index at (suc i) ≤ length block

abbrev pub End : ℕ → List ℕ → List ℕ → Type 0
End m at block = (i : ℕ) → i < m → Ends at block i

-- what they are
abbrev pub actions_in : List ℕ → ℕ → List ℕ → List Action
actions_in block m at = tabulate m (λ i. action_of (drop (slice_index at i) block))

-- m actions, which end the block
unfoldable pub last_actions : Limits → List ℕ → ℕ → ℕ → Reader (List Action)
last_actions F s facts m = do
  as' ← actions F s facts m
  p ← position
  require (leb (length s) p) 25 p
  done as'

-- what a sound problem's formulas and block are in size: the block is as long as what the problem is written as
pub record Sized (F : Limits) (p : Problem) (block : List ℕ) : Type 0 where
  pub initial : length (formula_bytes p.initial) ≤ max_formula_bytes
  pub goal : length (formula_bytes p.goal) ≤ max_formula_bytes
  pub whole : length block ≡ length (encode_problem F p)
  pub short : length block ≤ max_problem_bytes
