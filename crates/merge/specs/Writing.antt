-- The pieces in which a merged problem is written.
use Rattle.std.specs.Prelude.{List, [], ◌∷◌, ◌++◌, ℕ, ◌-◌, length}
use Rattle.model.specs.Action.{Effect}
use Rattle.model.specs.Limits.{version2}
use Rattle.model.specs.Read.{head_bytes, bytes_of}
use Rattle.model.specs.FormulaBytes.{literal_byte, encode_formula}
use Rattle.model.specs.ProblemBytes.{Problem, encode_problem}

abbrev pub effect_bytes : Effect → List ℕ
effect_bytes e = literal_byte e.literal ∷ encode_formula e.condition

-- what stands before a problem's initial formula, in version 2
unfoldable pub problem_head : Problem → List ℕ
problem_head r =
    version2.version ∷ (bytes_of 4 (length (encode_problem version2 r) - head_bytes) ++ (r.facts ∷ length r.actions ∷ []))
