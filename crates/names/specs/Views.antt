-- The names that the code has.
use Rattle.std.specs.Prelude.{map}
use Rattle.names.specs.Names as model
use Rattle.names.specs.declared.names.Names.{Names}

abbrev pub names : Names → model.Names
names n = record { facts = map (λ s. s.now) n.facts.now; actions = map (λ s. s.now) n.actions.now }
