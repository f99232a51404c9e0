-- A group's connective, its value with no member, and the value of a member that decides it.
use Rattle.model.specs.Kleene.{Kleene, No, Yes, both, either}
use Rattle.model.specs.FormulaBytes.{Group, conjunction, disjunction}

abbrev pub join_values : Group → Kleene → Kleene → Kleene
join_values conjunction = both
join_values disjunction = either

abbrev pub unit_value : Group → Kleene
unit_value conjunction = Yes
unit_value disjunction = No

abbrev pub deciding_value : Group → Kleene
deciding_value conjunction = No
deciding_value disjunction = Yes
