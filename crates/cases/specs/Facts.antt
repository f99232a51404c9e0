-- A case in which several facts have changed.
use Rattle.std.specs.Prelude.{cond, List, ℕ, length, get_or, ltb}
use Rattle.model.specs.Kleene.{Kleene, No, Unknown, known}
use Rattle.model.specs.Action.{tabulate}
use Rattle.model.specs.Case.{bit}

-- the values v, in which each fact g of from .. to - 1 has become t g
unfoldable pub with_facts : ℕ → ℕ → (ℕ → Kleene) → List Kleene → List Kleene
with_facts from to t v = tabulate (length v) (λ g. cond (ltb g from) (get_or v g No) (cond (ltb g to) (t g) (get_or v g No)))

-- fact f has its bit of the word, the top one for fact 0
abbrev pub bits_of : ℕ → ℕ → Kleene
bits_of word f = known (bit 64 word f)

abbrev pub unfixed : ℕ → Kleene
unfixed f = Unknown

-- a fact has the value that it has in v
abbrev pub fact_of : List Kleene → ℕ → Kleene
fact_of v f = get_or v f No
