-- The three values of a formula in a case: yes or no where the known facts decide it, and else unknown.
use Rattle.std.specs.Prelude.{Bool, true, false, ◌&&◌, ◌||◌, not}

-- Kleene's strong three-valued logic
pub data Kleene : Type 0 where
  No Unknown Yes : Kleene

-- three-valued cases: "and": no if one is no, yes if both are yes, and otherwise unknown
abbrev pub both : Kleene → Kleene → Kleene
both No v = No
both Unknown No = No
both Unknown Unknown = Unknown
both Unknown Yes = Unknown
both Yes v = v

-- "or": yes if one is yes, no if both are no, and otherwise unknown
abbrev pub either : Kleene → Kleene → Kleene
either No v = v
either Unknown No = Unknown
either Unknown Unknown = Unknown
either Unknown Yes = Yes
either Yes v = Yes

-- "not": what is unknown stays so
abbrev pub denied : Kleene → Kleene
denied No = Yes
denied Unknown = Unknown
denied Yes = No

abbrev pub is_yes : Kleene → Bool
is_yes No = false
is_yes Unknown = false
is_yes Yes = true

-- a fact that is fixed
abbrev pub known : Bool → Kleene
known false = No
known true = Yes

-- What reading a formula takes: the same reading serves states (two values) and cases (three).
pub record Logic (X : Type 0) : Type 0 where
  -- the empty "all", and the empty "any"
  pub always : X
  pub never : X
  pub both : X → X → X
  pub either : X → X → X
  pub denied : X → X
  -- whether a value is yes
  pub holds : X → Bool

abbrev pub two : Logic Bool
two = record { always = true; never = false; both = ◌&&◌; either = ◌||◌; denied = not; holds = λ b. b }

abbrev pub three : Logic Kleene
three = record { always = Yes; never = No; both = both; either = either; denied = denied; holds = is_yes }
