-- What the writer leaves in the buffer.
use Rattle.std.specs.Prelude.{◌≡◌, List, ◌∷◌, ◌++◌, ℕ, ◌+◌, ◌*◌, ◌≤◌, length, drop}
use Rattle.model.specs.declared.Limits.{Limits}
use Rattle.model.specs.Walk.{Line, Walked, covered}
use Rattle.model.specs.Read.{head_bytes, bytes_of}
use Rattle.model.specs.ListBytes.{encode_list}

-- the bytes before a body of n bytes
abbrev pub head_of : Limits → ℕ → List ℕ
head_of F n = F.version ∷ bytes_of 4 n

-- the block of the lines of the walk w, where it closes, the visits suffice and the body has the length that was said
abbrev pub WritesTask : Limits → Walked → ℕ → ℕ → List ℕ → List ℕ → Type 0
WritesTask F w g body before after =
    (ls : List Line) (a : ℕ) → w ≡ covered ls a → a ≤ g → body ≡ F.line * length ls → after ≡ encode_list F ls ++ drop (head_bytes + body) before
