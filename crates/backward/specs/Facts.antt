-- The facts of a set.
use Rattle.std.specs.Prelude.{◌≡◌, Bool, true, false, ◌&&◌, ◌||◌, not, List, ℕ, ◌<◌, get_or, eqb, Option, Some, None}
use Rattle.model.specs.Limits.{max_facts}
use Rattle.model.specs.Case.{bit}
use Rattle.backward.specs.declared.facts.FactSet.{FactSet}

abbrev pub has_fact : FactSet → ℕ → Bool
has_fact s = bit max_facts s.word

-- what the operators give
abbrev pub GivesUnion : FactSet → FactSet → FactSet → Type 0
GivesUnion s t r = (f : ℕ) → f < max_facts → has_fact r f ≡ (has_fact s f || has_fact t f)

abbrev pub GivesCommon : FactSet → FactSet → FactSet → Type 0
GivesCommon s t r = (f : ℕ) → f < max_facts → has_fact r f ≡ (has_fact s f && has_fact t f)

abbrev pub GivesRest : FactSet → FactSet → FactSet → Type 0
GivesRest s t r = (f : ℕ) → f < max_facts → has_fact r f ≡ (has_fact s f && not (has_fact t f))

-- the set's facts are those that are true in m
abbrev pub HasFacts : FactSet → List Bool → Type 0
HasFacts s m = (f : ℕ) → f < max_facts → has_fact s f ≡ get_or m f false

-- a set's first fact is taken out of it, if it has one
pub record FirstTaken (s : FactSet) (f : ℕ) (t : FactSet) : Type 0 where
  pub few : f < max_facts
  pub had : has_fact s f ≡ true
  pub left : (g : ℕ) → g < max_facts → has_fact t g ≡ (has_fact s g && not (eqb f g))

abbrev pub TakesFirst : FactSet → Option ℕ → FactSet → Type 0
TakesFirst s None t = (f : ℕ) → f < max_facts → has_fact s f ≡ false
TakesFirst s (Some f) t = FirstTaken s f t
