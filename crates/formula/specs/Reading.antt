-- What a reader answers.
use Rattle.std.specs.Prelude.{Result, Ok, Err}
use Rattle.model.specs.Formula as model
use Rattle.model.specs.Read as reading
use Rattle.model.specs.declared.Refusal.{Refusal}
use Rattle.formula.specs.Readings.{rejected}
use Rattle.formula.specs.Views.{formula}
use Rattle.formula.specs.declared.find.Found.{Found}

-- the refusal, or the formula and the position after it
abbrev pub read_of : Result Found Refusal → reading.Read model.Formula
read_of (Err r) = rejected r
read_of (Ok r) = reading.got (formula r.formula) r.next
