-- What an action changes in the state of lane 0, and the facts that its conditions name.
use Rattle.std.specs.Prelude.{◌≡◌, Bool, ◌&&◌, ◌||◌, List, ℕ, ◌<◌}
use Rattle.model.specs.Limits.{max_facts}
use Rattle.model.specs.Kleene.{is_yes, three}
use Rattle.model.specs.Formula.{Literal, fact, denial, Formula, eval}
use Rattle.model.specs.Action.{Effect, same_literal, condition_of}
use Rattle.model.specs.Relevance.{names, some, has_entry}
use Rattle.cases.specs.declared.cases.Cases.{Cases}
use Rattle.cases.specs.Cases.{case_of}
use Rattle.backward.specs.declared.facts.FactSet.{FactSet}
use Rattle.backward.specs.declared.changes.Changes.{Changes}
use Rattle.backward.specs.Facts.{has_fact}

-- the formula is true in lane 0
abbrev pub holds_now : Cases → Formula → Bool
holds_now c φ = is_yes (eval three (case_of c 0) φ)

-- with the effect x
pub record AddsEffect (c : Cases) (before : Changes) (x : Effect) (r : Changes) : Type 0 where
  pub may_set : (g : ℕ) → g < max_facts → has_fact r.may_set g ≡ (has_fact before.may_set g || same_literal (fact g) x.literal)
  pub may_clear : (g : ℕ) → g < max_facts → has_fact r.may_clear g ≡ (has_fact before.may_clear g || same_literal (denial g) x.literal)
  pub set : (g : ℕ) → g < max_facts → has_fact r.set g ≡ (has_fact before.set g || (same_literal (fact g) x.literal && holds_now c x.condition))
  pub cleared :
      (g : ℕ) → g < max_facts → has_fact r.cleared g ≡ (has_fact before.cleared g || (same_literal (denial g) x.literal && holds_now c x.condition))

-- the facts that have an entry, and those whose condition is true in lane 0
pub record IsChanges (c : Cases) (es : List Effect) (r : Changes) : Type 0 where
  pub may_set : (g : ℕ) → g < max_facts → has_fact r.may_set g ≡ has_entry (fact g) es
  pub may_clear : (g : ℕ) → g < max_facts → has_fact r.may_clear g ≡ has_entry (denial g) es
  pub set : (g : ℕ) → g < max_facts → has_fact r.set g ≡ holds_now c (condition_of (fact g) es)
  pub cleared : (g : ℕ) → g < max_facts → has_fact r.cleared g ≡ holds_now c (condition_of (denial g) es)

-- the literal is of a fact in `set`, or denies one in `cleared`
abbrev pub asks : FactSet → FactSet → Literal → Bool
asks set cleared (fact g) = has_fact set g
asks set cleared (denial g) = has_fact cleared g

-- the facts named by the set condition of a fact in `set`, or by the clear condition of one in `cleared`
abbrev pub NamesAsked : ℕ → FactSet → FactSet → List Effect → FactSet → Type 0
NamesAsked facts set cleared es r =
    (f : ℕ) → f < max_facts →
    has_fact r f ≡ some facts (λ g. (has_fact set g && names (condition_of (fact g) es) f) || (has_fact cleared g && names (condition_of (denial g) es) f))
