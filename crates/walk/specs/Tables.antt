-- The tables of a walk.
use Rattle.std.specs.Prelude.{◌≡◌, List, ℕ, ◌<◌, replicate}
use Rattle.model.specs.Kleene.{Kleene, Unknown}
use Rattle.cases.specs.Cases.{case_of}
use Rattle.cases.specs.Blocks.{block_case}
use Rattle.walk.specs.declared.tables.Tables.{Tables}

abbrev pub facts_of : Tables → ℕ
facts_of t = t.case.facts

-- they stand at the case v, in every lane
abbrev pub StandsAt : Tables → List Kleene → Type 0
StandsAt t v = (j : ℕ) → j < 64 → case_of t.case j ≡ v

-- they stand at the case that fixes no fact, of so many
pub record AtFirst (t : Tables) (facts : ℕ) : Type 0 where
  pub count : facts_of t ≡ facts
  pub stands : StandsAt t (replicate facts Unknown)

-- the lanes of the block below the case at which they stand
abbrev pub block_at : Tables → ℕ → ℕ → ℕ → List Kleene
block_at t k levels j = block_case (case_of t.case j) k levels j
