-- A problem and a plan as a text that a person can read and change.
use Rattle.std.specs.Prelude.{Bool, true, false, cond, List, [], ◌∷◌, ◌++◌, ℕ, zero, suc, eqb, codes, decimal}
use Rattle.model.specs.declared.Limits.{Limits}
use Rattle.model.specs.declared.marks.Group.{Group}
use Rattle.model.specs.declared.marks.Group.TheVariants.{All, Any}
use Rattle.model.specs.Formula.{Literal, fact, denial, Formula, lit, all, any, none, more}
use Rattle.model.specs.Action.{Effect, Action}
use Rattle.model.specs.ProblemBytes.{Problem}
use Rattle.names.specs.Names.{Names}
use Rattle.names.specs.Texts.{fact_name, action_name, formula_text}

-- whether a formula is the "all" of nothing, which is always true: it is left out where it is a precondition or a condition
abbrev pub is_always : Formula → Bool
is_always (lit l) = false
is_always (all none) = true
is_always (all (more m ms)) = false
is_always (any ms) = false

-- whether the group of so many members is such a formula
abbrev pub is_all_of_none : Group → ℕ → Bool
is_all_of_none All n = eqb n 0
is_all_of_none Any n = false

module _ (N : Names) where
  -- a formula after a word, or nothing where it is always true
  unfoldable pub unless_always : List ℕ → Formula → List ℕ
  unless_always word f = cond (is_always f) [] (word ++ formula_text N f)

  -- the facts from f on, so many, as in "fact a"
  unfoldable pub facts_text : ℕ → ℕ → List ℕ
  facts_text f zero = []
  facts_text f (suc n) = codes "fact " ++ (fact_name N f ++ (10 ∷ facts_text (suc f) n))

  -- as in "sets a", of a literal
  abbrev pub literal_set : Literal → List ℕ
  literal_set (fact f) = codes "  sets " ++ fact_name N f
  literal_set (denial f) = codes "  clears " ++ fact_name N f

  -- as in "sets a if all( b !c )"
  unfoldable pub effects_text : List Effect → List ℕ
  effects_text [] = []
  effects_text (e ∷ es) = literal_set e.literal ++ (unless_always (codes " if ") e.condition ++ (10 ∷ effects_text es))

  -- what an action asks for, on a line of its own
  unfoldable pub needs_text : Formula → List ℕ
  needs_text f = cond (is_always f) [] (codes "  needs " ++ (formula_text N f ++ (10 ∷ [])))

  -- the actions from number i on: "action b", what it needs, and its effects, a line each
  unfoldable pub actions_text : ℕ → List Action → List ℕ
  actions_text i [] = []
  actions_text i (a ∷ as') =
      codes "action " ++
      (action_name N i ++ (10 ∷ (needs_text a.precondition ++ (effects_text a.effects ++ actions_text (suc i) as'))))

  -- problem text: the version, the facts, what holds at the start, the goal, and the actions
  unfoldable pub problem_text : Limits → Problem → List ℕ
  problem_text F p =
      codes "version " ++
      (decimal F.version ++
      (10 ∷
      (facts_text 0 p.facts ++
      (codes "start " ++ (formula_text N p.initial ++ (10 ∷ (codes "goal " ++ (formula_text N p.goal ++ (10 ∷ actions_text 0 p.actions)))))))))

  -- the steps of a plan, each the name of its action
  unfoldable pub steps_text : List ℕ → List ℕ
  steps_text [] = []
  steps_text (b ∷ bs) = codes "  " ++ (action_name N b ++ (10 ∷ steps_text bs))

  -- plan text
  unfoldable pub plan_text : List ℕ → List ℕ
  plan_text steps = codes "plan" ++ (10 ∷ steps_text steps)
