-- The names of facts and actions.
use Rattle.std.specs.Prelude.{◌≡◌, Bool, true, false, not, ◌&&◌, List, [], ◌∷◌, ℕ, ◌<◌, length, get_or, eqb, leb, codes, decimal}
use Rattle.std.specs.List.{list_any, list_all}
use Rattle.std.specs.Str.{bytes_eq}
use Rattle.words.specs.Words.{ends_word}

-- names: of the first facts and of the first actions
pub record Names : Type 0 where
  pub facts : List (List ℕ)
  pub actions : List (List ℕ)

-- no names: everything is known by its number
abbrev pub numbers : Names
numbers = record { facts = []; actions = [] }

-- a name, or the number in decimal where there is none
abbrev pub name_of : List (List ℕ) → ℕ → List ℕ
name_of names i = get_or names i (decimal i)

-- whether a list of words has a word
abbrev pub has_word : List (List ℕ) → List ℕ → Bool
has_word words w = list_any (λ v. bytes_eq v w) words

-- the words that a problem's text is built of: none of them is a name
abbrev pub keywords : List (List ℕ)
keywords =
    codes "version" ∷ codes "fact" ∷ codes "start" ∷ codes "goal" ∷ codes "action" ∷ codes "needs" ∷ codes "sets" ∷ codes "clears" ∷ codes "if" ∷
    codes "plan" ∷ codes "all" ∷ codes "any" ∷ []

-- whether no byte of a word ends it
abbrev pub is_one_word : List ℕ → Bool
is_one_word w = list_all (λ b. not (ends_word b)) w

-- the mark of a denial stands before the name of its fact
abbrev pub denial_mark : ℕ
denial_mark = 33

-- so many bytes a name has at most
abbrev pub max_name_bytes : ℕ
max_name_bytes = 255

abbrev pub is_short : List ℕ → Bool
is_short w = leb (length w) max_name_bytes

-- names of facts and actions: a word that is no keyword, is not too long, and does not begin as a denial does
abbrev pub is_name : List ℕ → Bool
is_name [] = false
is_name (b ∷ t) = not (eqb b denial_mark) && (is_short (b ∷ t) && (is_one_word (b ∷ t) && not (has_word keywords (b ∷ t))))

-- the first n things have names, no two of them the same
pub record Named (n : ℕ) (names : List (List ℕ)) : Type 0 where
  pub sound : (i : ℕ) → i < n → is_name (name_of names i) ≡ true
  pub distinct : (i j : ℕ) → i < n → j < n → name_of names i ≡ name_of names j → i ≡ j

-- so have the n facts and m actions of a problem
pub record NamesOk (N : Names) (n m : ℕ) : Type 0 where
  pub facts : Named n N.facts
  pub actions : Named m N.actions
