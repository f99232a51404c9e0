-- Formulas over facts, and their values.
use Rattle.std.specs.Prelude.{List, ℕ, get_or}
use Rattle.model.specs.Kleene.{Logic}

-- formulas: a literal is a fact, or its denial
pub data Literal : Type 0 where
  fact denial : ℕ → Literal

-- a group is true if all its members are, or if any is
mutual
  pub data Formula : Type 0 where
    lit : Literal → Formula
    all any : Formulas → Formula

  pub data Formulas : Type 0 where
    none : Formulas
    more : Formula → Formulas → Formulas

-- `c` has the values of the facts, fact 0 first: yes or no in a state, and maybe unknown in a case.
module _ {X : Type 0} (L : Logic X) (c : List X) where
  abbrev pub value_of : Literal → X
  value_of (fact f) = get_or c f L.never
  value_of (denial f) = L.denied (get_or c f L.never)

  -- with no member an "all" is true, and an "any" is false
  unfoldable mutual
    pub eval : Formula → X
    eval (lit l) = value_of l
    eval (all ms) = eval_all ms
    eval (any ms) = eval_any ms

    pub eval_all : Formulas → X
    eval_all none = L.always
    eval_all (more m ms) = L.both (eval m) (eval_all ms)

    pub eval_any : Formulas → X
    eval_any none = L.never
    eval_any (more m ms) = L.either (eval m) (eval_any ms)
