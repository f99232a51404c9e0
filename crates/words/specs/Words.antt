-- The words of a text: blanks and brackets stand between them, a bracket is a word of its own, and from a # on the rest of a line is a comment.
use Rattle.std.specs.Prelude.{Bool, true, false, cond, not, ◌||◌, List, [], ◌∷◌, ℕ, suc, length, take, drop, eqb}

-- a space, a tab, a line feed or a carriage return
abbrev pub is_blank : ℕ → Bool
is_blank b = eqb b 32 || (eqb b 9 || (eqb b 10 || eqb b 13))

abbrev pub is_bracket : ℕ → Bool
is_bracket b = eqb b 40 || eqb b 41

-- the bytes that no word goes on with: blanks, brackets, and the # of a comment
abbrev pub ends_word : ℕ → Bool
ends_word b = is_blank b || (is_bracket b || eqb b 35)

-- what is left of a text past its first blanks and comments; whether it begins inside a comment
unfoldable pub past_blanks : Bool → List ℕ → List ℕ
past_blanks inside [] = []
past_blanks true (b ∷ t) = past_blanks (not (eqb b 10)) t
past_blanks false (b ∷ t) = cond (eqb b 35) (past_blanks true t) (cond (is_blank b) (past_blanks false t) (b ∷ t))

-- how many bytes there are before one that ends a word
unfoldable pub run_length : List ℕ → ℕ
run_length [] = 0
run_length (b ∷ t) = cond (ends_word b) 0 (suc (run_length t))

-- how long the word is that a text begins with: none has no length
unfoldable pub word_length : List ℕ → ℕ
word_length [] = 0
word_length (b ∷ t) = cond (is_bracket b) 1 (run_length (b ∷ t))

-- a text from its first word on
abbrev pub from_word : List ℕ → List ℕ
from_word t = past_blanks false t

-- words: the first word of a text, which is empty where there is none, and the text after it
unfoldable pub word : List ℕ → List ℕ
word t = take (word_length (from_word t)) (from_word t)

unfoldable pub after_word : List ℕ → List ℕ
after_word t = drop (word_length (from_word t)) (from_word t)

-- how many bytes there are from the first word on: where the word stands, told from the end of the text
abbrev pub left_at : List ℕ → ℕ
left_at t = length (from_word t)
