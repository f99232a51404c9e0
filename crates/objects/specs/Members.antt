-- The members of an object, and the text of an object on one line.
use Rattle.std.specs.Prelude.{List, [], ◌∷◌, ◌++◌, ℕ, codes, decimal}

-- what a member holds: a number, a word, or the steps of a plan
pub data Content : Type 0 where
  number : ℕ → Content
  word : List ℕ → Content
  steps : List ℕ → Content

-- a key, and what it holds
abbrev pub Member : Type 0
Member = List ℕ × Content

-- as in `"found"`
abbrev pub quoted : List ℕ → List ℕ
quoted w = codes "\"" ++ (w ++ codes "\"")

-- as in `[0,2]`
unfoldable pub later_steps : List ℕ → List ℕ
later_steps [] = codes "]"
later_steps (b ∷ bs) = codes "," ++ (decimal b ++ later_steps bs)

abbrev pub steps_text : List ℕ → List ℕ
steps_text [] = codes "[]"
steps_text (b ∷ bs) = codes "[" ++ (decimal b ++ later_steps bs)

abbrev pub content_text : Content → List ℕ
content_text (number n) = decimal n
content_text (word w) = quoted w
content_text (steps p) = steps_text p

-- as in `"visits":17`
abbrev pub member_text : Member → List ℕ
member_text m = quoted m.0 ++ (codes ":" ++ content_text m.1)

-- as in `{"answer":"found","steps":[0,2],"visits":17}`
abbrev pub later_members : List Member → List ℕ
later_members [] = codes "}"
later_members (m ∷ ms) = codes "," ++ (member_text m ++ later_members ms)

abbrev pub object_text : List Member → List ℕ
object_text [] = codes "{}"
object_text (m ∷ ms) = codes "{" ++ (member_text m ++ later_members ms)
