-- What 64 cases and a value in them show.
use Rattle.std.specs.Prelude.{◌≡◌, List, ℕ, ◌≤◌, ◌<◌, get_or, set}
use Rattle.model.specs.Kleene.{Kleene, No, both, either, denied}
use Rattle.model.specs.Formula.{Literal, fact, denial}
use Rattle.model.specs.Case as model
use Rattle.model.specs.Planes.{lane_bit}
use Rattle.cases.specs.Lanes.{value_in, case_in}
use Rattle.cases.specs.declared.case.Case.{Case}
use Rattle.cases.specs.declared.cases.Cases.{Cases}
use Rattle.cases.specs.declared.value.Value.{Value}

-- the case in lane j
abbrev pub case_of : Cases → ℕ → List Kleene
case_of c j = case_in c.facts c.words j

-- the value in lane j
abbrev pub value_at : Value → ℕ → Kleene
value_at v j = value_in (lane_bit j v.some) (lane_bit j v.sure)

-- the same value in every lane
abbrev pub Everywhere : Kleene → Value → Type 0
Everywhere t v = (j : ℕ) → j < 64 → value_at v j ≡ t

-- a change of a fact and its value makes of each fact from .. to - 1 of these cases, a lane each, the value t
abbrev pub Makes : (ℕ → Value → Value → Type 0) → ℕ → ℕ → (ℕ → List Kleene) → (ℕ → ℕ → Kleene) → Type 0
Makes changes from to cases t =
    (f : ℕ) (v r : Value) → from ≤ f → f < to → ((j : ℕ) → j < 64 → value_at v j ≡ get_or (cases j) f No) → changes f v r →
    (j : ℕ) → j < 64 → value_at r j ≡ t j f

-- the connectives, lane by lane
abbrev pub GivesBoth : Value → Value → Value → Type 0
GivesBoth a b r = (j : ℕ) → j < 64 → value_at r j ≡ both (value_at a j) (value_at b j)

abbrev pub GivesEither : Value → Value → Value → Type 0
GivesEither a b r = (j : ℕ) → j < 64 → value_at r j ≡ either (value_at a j) (value_at b j)

abbrev pub GivesDenied : Value → Value → Type 0
GivesDenied a r = (j : ℕ) → j < 64 → value_at r j ≡ denied (value_at a j)

-- the values v, in which a literal has become t
abbrev pub with_literal : Literal → Kleene → List Kleene → List Kleene
with_literal (fact f) t v = set v f t
with_literal (denial f) t v = set v f (denied t)

-- the values of a case, over so many facts
abbrev pub values_of : ℕ → Case → List Kleene
values_of facts case = model.case_of 64 facts case.fixed case.word

-- two cases both fix the first m facts, and alike
pub record Common (a b : Case) (m : ℕ) : Type 0 where
  pub first : m ≤ a.fixed
  pub second : m ≤ b.fixed
  pub alike : (f : ℕ) → f < m → model.bit 64 a.word f ≡ model.bit 64 b.word f
