-- The names that a text gives, such as a list of names, or the text of a problem.
use Rattle.std.specs.Prelude.{Bool, true, cond, ◌&&◌, not, List, [], ◌∷◌, ℕ, zero, suc, length, map, eqb, codes}
use Rattle.std.specs.Str.{bytes_eq, is_utf8}
use Rattle.std.specs.Borrow.{Bor}
use Rattle.words.specs.Words.{word, after_word}
use Rattle.names.specs.Names.{Names, has_word, is_name}

-- a text has no more words where the next one is empty
abbrev pub has_ended : List ℕ → Bool
has_ended t = eqb (length (word t)) 0

-- the words that stand after each `key` of a text, up to its end, of so many words looked at
unfoldable pub words_after_in : List ℕ → ℕ → List ℕ → List (List ℕ)
words_after_in key zero t = []
words_after_in key (suc n) t =
    cond (has_ended t) []
    (cond (bytes_eq (word t) key) (word (after_word t) ∷ words_after_in key n (after_word (after_word t))) (words_after_in key n (after_word t)))

-- of all words: a text has at most as many as it has bytes
abbrev pub words_after : List ℕ → List ℕ → List (List ℕ)
words_after key t = words_after_in key (length t) t

-- what a text names: each word after `fact` is the name of a fact, and each word after `action` that of an action, in their order
abbrev pub names_in : List ℕ → Names
names_in t = record { facts = words_after (codes "fact") t; actions = words_after (codes "action") t }

-- whether a word is a name that can be printed
abbrev pub is_printed_name : List ℕ → Bool
is_printed_name w = is_name w && is_utf8 w

-- whether words are names, and no two of them the same
unfoldable pub are_names : List (List ℕ) → Bool
are_names [] = true
are_names (n ∷ ns) = is_printed_name n && (not (has_word ns n) && are_names ns)

abbrev pub all_names : Names → Bool
all_names N = are_names N.facts && are_names N.actions

-- names that a problem with so many facts and actions can be spoken of by
abbrev pub fit : Names → ℕ → ℕ → Bool
fit N facts actions = (eqb (length N.facts) facts && are_names N.facts) && (eqb (length N.actions) actions && are_names N.actions)

-- the words of a list of the code
abbrev pub texts : List (Bor (List ℕ)) → List (List ℕ)
texts names = map (λ s. s.now) names

-- whether a word may stand after names, as one more
abbrev pub is_new_name : List (List ℕ) → List ℕ → Bool
is_new_name names w = is_printed_name w && not (has_word names w)
