-- States as a command line has them.
use Rattle.std.specs.Prelude.{Bool, cond, ◌||◌, ◌&&◌, List, map, ℕ, length, eqb, Option, None, Some}
use Rattle.std.specs.List.{list_all}
use Rattle.model.specs.Relevance.{number_of}

-- a 0 or a 1
abbrev pub is_mark : ℕ → Bool
is_mark b = eqb b 48 || eqb b 49

abbrev pub are_marks : List ℕ → Bool
are_marks t = list_all is_mark t

-- the number, w bits wide, of the state of n facts that has these marks
abbrev pub marked_state : ℕ → ℕ → List ℕ → Option ℕ
marked_state w n t = cond (eqb (length t) n && are_marks t) (Some (number_of w (map (eqb 49) t))) None
