-- Reading a text from left to right, word by word: a parser takes the text that is left, and gives what is wrong and where, or what it read and
-- the text after it.
use Rattle.std.specs.Prelude.{Bool, cond, List, ℕ, Option, Some, None}
use Rattle.words.specs.Words.{word, after_word, left_at}
use Rattle.words.specs.declared.complaint.Complaint.{Complaint}

infixl 20 ◌>>=◌ ◌>>◌
-- where something is wrong is told by how many bytes of the text are left there
pub data Parsed (A : Type 0) : Type 0 where
  bad : Complaint → ℕ → Parsed A
  got : A → List ℕ → Parsed A

abbrev pub Parser : Type 0 → Type 0
Parser A = List ℕ → Parsed A

unfoldable pub and_then : {A B : Type 0} → Parsed A → (A → Parser B) → Parsed B
and_then (bad c q) k = bad c q
and_then (got a t) k = k a t

-- one parser after another: the first thing that is wrong is the answer
unfoldable pub ◌>>=◌ : {A B : Type 0} → Parser A → (A → Parser B) → Parser B
◌>>=◌ r k t = and_then (r t) k

unfoldable pub ◌>>◌ : {A B : Type 0} → Parser A → Parser B → Parser B
◌>>◌ r s t = and_then (r t) (λ a. s)

unfoldable pub done : {A : Type 0} → A → Parser A
done a t = got a t

-- where the next word stands
unfoldable pub here : Parser ℕ
here t = got (left_at t) t

-- the next word, which stays
unfoldable pub peek : Parser (List ℕ)
peek t = got (word t) t

-- the next word
unfoldable pub next : Parser (List ℕ)
next t = got (word t) (after_word t)

-- what is wrong at a place unless the test holds
unfoldable pub require : Bool → Complaint → ℕ → Parser (Unit {0})
require test c place t = cond test (got tt t) (bad c place)

-- a value, or what is wrong at a place where there is none
unfoldable pub found : {A : Type 0} → Option A → Complaint → ℕ → Parser A
found None c place t = bad c place
found (Some a) c place t = got a t
