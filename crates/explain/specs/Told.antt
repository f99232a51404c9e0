-- What is told of a run: a line a step, with the facts that it changed, and where it ends.
use Rattle.std.specs.Prelude.{Bool, true, false, cond, List, [], ◌∷◌, ◌++◌, map, ℕ, zero, suc, get_or, codes, decimal}
use Rattle.model.specs.declared.Limits.{Limits}
use Rattle.model.specs.Kleene.{two}
use Rattle.model.specs.Formula.{Formula, Formulas, lit, all, any, none, more}
use Rattle.model.specs.Action.{Action, exclusive}
use Rattle.model.specs.Run.{holds_in, lowest_false}
use Rattle.model.specs.Case.{state_of}
use Rattle.model.specs.ProblemBytes.{Problem, action_at}
use Rattle.names.specs.Names.{Names}
use Rattle.names.specs.Texts.{fact_name, action_name, formula_text}
use Rattle.told.specs.States.{state_text}
use Rattle.explain.specs.Rows.{rows}

module _ (N : Names) where
  -- a formula on a line of its own
  abbrev pub formula_line : Formula → List ℕ
  formula_line f = codes "  " ++ (formula_text N f ++ (10 ∷ []))

  -- which part of a false formula is false: each false member of an "all", and else the whole
  unfoldable pub false_members : (Formula → Bool) → Formulas → List ℕ
  false_members holds none = []
  false_members holds (more m ms) = cond (holds m) [] (formula_line m) ++ false_members holds ms

  unfoldable pub false_part : (Formula → Bool) → Formula → List ℕ
  false_part holds (lit l) = formula_line (lit l)
  false_part holds (all ms) = false_members holds ms
  false_part holds (any ms) = formula_line (any ms)

  -- what became of fact f, as in "+a" or "-b"
  abbrev pub change_text : Bool → Bool → ℕ → List ℕ
  change_text true true f = []
  change_text true false f = codes " -" ++ fact_name N f
  change_text false true f = codes " +" ++ fact_name N f
  change_text false false f = []

  -- the same of the facts f, f + 1, .., so many, from the state c to the state d
  unfoldable pub changes_text : List Bool → List Bool → ℕ → ℕ → List ℕ
  changes_text c d f zero = []
  changes_text c d f (suc n) = change_text (get_or c f false) (get_or d f false) f ++ changes_text c d (suc f) n

  -- as in "step 3 b:", of the action b
  unfoldable pub step_head : ℕ → ℕ → List ℕ
  step_head i b = codes "step " ++ (decimal i ++ (32 ∷ (action_name N b ++ codes ":")))

  module _ (p : Problem) where
    -- why an action is not applicable in the state c
    unfoldable pub block_text : Action → List Bool → List ℕ
    block_text a c =
        cond (holds_in two c a.precondition)
        (codes " blocked, as it would set and clear " ++ (fact_name N (lowest_false p.facts (exclusive two a c)) ++ (10 ∷ [])))
        (codes " blocked, as this is false:" ++ (10 ∷ false_part (holds_in two c) a.precondition))

    -- how a run ends in the state c
    unfoldable pub end_text : List Bool → List ℕ
    end_text c =
        cond (holds_in two c p.goal)
        (codes "end: the goal is reached" ++ (10 ∷ []))
        (codes "end: the goal is missed, as this is false:" ++ (10 ∷ false_part (holds_in two c) p.goal))

    -- the steps from number i on, with the state before each that is taken, and the state where the run ends
    unfoldable pub told : List ℕ → ℕ → List (List Bool) → List ℕ
    told bs i [] = []
    told [] i (c ∷ cs) = end_text c
    told (b ∷ bs) i (c ∷ []) = step_head i b ++ block_text (action_at p.actions b) c
    told (b ∷ bs) i (c ∷ d ∷ cs) = step_head i b ++ (changes_text c d 0 p.facts ++ (10 ∷ told bs (suc i) (d ∷ cs)))

    -- explanation: the state numbered s, and then its run
    unfoldable pub explanation : Limits → List ℕ → ℕ → List ℕ
    explanation F steps s =
        let c = state_of F.width p.facts s in
        codes "start: " ++ (state_text N F p.facts s ++ (10 ∷ told steps 0 (rows p.facts (map (action_at p.actions) steps) c)))
