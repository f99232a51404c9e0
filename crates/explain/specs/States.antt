-- The state in lane 0.
use Rattle.std.specs.Prelude.{◌≡◌, Bool, List, map}
use Rattle.model.specs.Kleene.{is_yes, known}
use Rattle.cases.specs.declared.cases.Cases.{Cases}
use Rattle.cases.specs.Cases.{case_of}

-- which facts are yes there
abbrev pub state_in : Cases → List Bool
state_in c = map is_yes (case_of c 0)

-- it is a state: every fact is known
abbrev pub IsKnown : Cases → Type 0
IsKnown c = case_of c 0 ≡ map known (state_in c)
