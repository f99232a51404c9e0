-- The names that a list of the code has.
use Rattle.names.specs.Names.{Names}
use Rattle.names.specs.Lists.{texts}
use Rattle.names.specs.declared.lists.NameList.{NameList}

abbrev pub listed : NameList → Names
listed l = record { facts = texts l.facts.items; actions = texts l.actions.items }
