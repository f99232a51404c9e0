-- What literals and formulas are written as.
use Rattle.std.specs.Prelude.{List, ◌∷◌, ◌++◌, ℕ, codes}
use Rattle.model.specs.Formula.{Literal, fact, denial, Formula, Formulas, lit, all, any, none, more}
use Rattle.model.specs.FormulaBytes.{Group, conjunction, disjunction}
use Rattle.names.specs.Names.{Names, name_of, denial_mark}

-- what the text of a group begins with
abbrev pub opening_text : Group → List ℕ
opening_text conjunction = codes "all("
opening_text disjunction = codes "any("

module _ (N : Names) where
  abbrev pub fact_name : ℕ → List ℕ
  fact_name f = name_of N.facts f

  abbrev pub action_name : ℕ → List ℕ
  action_name a = name_of N.actions a

  abbrev pub literal_text : Literal → List ℕ
  literal_text (fact f) = fact_name f
  literal_text (denial f) = denial_mark ∷ fact_name f

  -- as in "all( a !b any( c d ) )"
  unfoldable mutual
    pub formula_text : Formula → List ℕ
    formula_text (lit l) = literal_text l
    formula_text (all ms) = opening_text conjunction ++ members_text ms
    formula_text (any ms) = opening_text disjunction ++ members_text ms

    pub members_text : Formulas → List ℕ
    members_text none = codes " )"
    members_text (more m ms) = 32 ∷ (formula_text m ++ members_text ms)
