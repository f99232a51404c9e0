-- What files are called, and how long they may be.
use Rattle.std.specs.Prelude.{List, ℕ, codes}
use Rattle.files.specs.declared.role.Role.{Role}
use Rattle.files.specs.declared.role.Role.TheVariants.{Problem, Plan, List as CaseList, Text, Names}

abbrev pub role_name : Role → List ℕ
role_name Problem = codes "problem"
role_name Plan = codes "plan"
role_name CaseList = codes "list"
role_name Text = codes "text"
role_name Names = codes "names"

-- bytes; of blocks, those of the version that has more
abbrev pub most_bytes : Role → ℕ
most_bytes Problem = 32768
most_bytes Plan = 261
most_bytes CaseList = 65535
most_bytes Text = 9437184
most_bytes Names = 262144
