-- Files that could not be read.
use Rattle.std.specs.Prelude.{Bool, true, false, Option, None, Some}
use Rattle.desk.specs.declared.lacks.Lack.{Lack}
use Rattle.desk.specs.declared.lacks.Lack.TheVariants.{NoName, NoText, Unread}

-- whether there is a file that could not be read
abbrev pub is_unread : Option Lack → Bool
is_unread None = false
is_unread (Some NoName) = false
is_unread (Some NoText) = false
is_unread (Some (Unread kind)) = true
