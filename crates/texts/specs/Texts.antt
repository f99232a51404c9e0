-- The lines of a text, and what is told of one that was made into blocks.
use Rattle.std.specs.Prelude.{cond, List, [], ◌∷◌, ℕ, suc, eqb, codes, decimal}
use Rattle.model.specs.DeskText.{sentence}

-- how many line feeds a text has
unfoldable pub line_feeds : List ℕ → ℕ
line_feeds [] = 0
line_feeds (b ∷ bs) = cond (eqb b 10) (suc (line_feeds bs)) (line_feeds bs)

-- as in "made 57 bytes"
abbrev pub made_line : ℕ → List ℕ
made_line bytes = sentence (codes "made" ∷ decimal bytes ∷ codes "bytes" ∷ [])
