-- Blocks as a reviewer writes them: bytes in hexadecimal.
use Rattle.std.specs.Prelude.{Bool, true, false, cond, List, ℕ, ◌+◌, ◌-◌, ◌*◌, eqb, ltb}
use Prim.Native.Char.{code}
use Prim.Native.String.{String, [], ◌∷◌}

abbrev nibble : ℕ → ℕ
nibble c = cond (ltb c 97) (c - 48) (c - 87)

abbrev keep : Bool → ℕ → List ℕ → List ℕ
keep true x xs = xs
keep false x xs = List.◌∷◌ x xs

nibbles : String → List ℕ
nibbles [] = List.[]
nibbles (c ∷ t) = keep (eqb (code c) 32) (nibble (code c)) (nibbles t)

abbrev pairs : List ℕ → List ℕ
pairs List.[] = List.[]
pairs (List.◌∷◌ a List.[]) = List.[]
pairs (List.◌∷◌ a (List.◌∷◌ b t)) = List.◌∷◌ (a * 16 + b) (pairs t)

-- bytes written in hexadecimal, with spaces where they help
unfoldable pub hex : String → List ℕ
unfolding nibbles
hex t = pairs (nibbles t)
