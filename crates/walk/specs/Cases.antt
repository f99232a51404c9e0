-- The line of a case.
use Rattle.model.specs.Walk as model
use Rattle.model.specs.Marks.{kind_of}
use Rattle.model.specs.declared.marks.Kind.{Kind}
use Rattle.walk.specs.declared.case.Case.{Case}

-- the line that closes it
abbrev pub closed_line : Kind → Case → model.Line
closed_line kind case = model.line (kind_of kind) case.k case.number
