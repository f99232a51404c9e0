-- A text as a JSON object: what has to be escaped in it is escaped by the kit's serde_json.
use Rattle.std.specs.Prelude.{List, [], ◌∷◌, ℕ, codes}
use Rattle.objects.specs.Members.{word}
use Rattle.objects.specs.Objects.{written}

-- as in `{"text":"step 0 unload:\n"}`
abbrev pub text_json : List ℕ → List ℕ
text_json t = written ((codes "text", word t) ∷ [])
