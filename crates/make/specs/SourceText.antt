-- A problem, and maybe a plan, in a text.
use Rattle.std.specs.Prelude.{cond, not, List, [], ◌∷◌, ◌++◌, map, ℕ, zero, suc, length, eqb, leb, Option, Some, None, codes}
use Rattle.std.specs.Str.{bytes_eq}
use Rattle.model.specs.declared.Limits.{Limits}
use Rattle.model.specs.Limits.{version1, version2, max_actions, max_steps, max_problem_bytes}
use Rattle.model.specs.Formula.{Formula}
use Rattle.model.specs.Action.{Action}
use Rattle.model.specs.ProblemBytes.{Problem, encode_problem}
use Rattle.words.specs.Words.{word, after_word, left_at}
use Rattle.names.specs.Names.{has_word, is_name}
use Rattle.make.specs.Parsed.{bad, got, Parser, and_then, ◌>>=◌, ◌>>◌, done, here, peek, next, require, found}
use Rattle.make.specs.FormulaText.{index_of, formula, formula_after, effects}
use Rattle.words.specs.declared.complaint.Complaint.{Complaint}
use Rattle.words.specs.declared.complaint.Complaint.TheVariants.{NoVersion, NoFact, TooManyFacts, NoStart, NoGoal, NoName, NameTaken, TooManyActions, UnknownAction, TooManySteps, WordLeft, TooLong}

-- a name that none has yet
unfoldable pub new_name : List (List ℕ) → Parser (List ℕ)
new_name taken = do
  place ← here
  w ← next
  require (is_name w) NoName place
  require (not (has_word taken w)) NameTaken place
  done w

-- a word that has to stand here
unfoldable pub key : List ℕ → Complaint → Parser (Unit {0})
key w c = do
  place ← here
  v ← next
  require (bytes_eq v w) c place

-- the version's number, and with it the limits
unfoldable pub limits_named : List ℕ → Option Limits
limits_named w = cond (bytes_eq w (codes "1")) (Some version1) (cond (bytes_eq w (codes "2")) (Some version2) None)

unfoldable pub version : Parser Limits
version = do
  key (codes "version") NoVersion
  place ← here
  w ← next
  found (limits_named w) NoVersion place

-- so many facts at most, each with a name that none of those before it has
unfoldable pub facts : ℕ → List (List ℕ) → Parser (List (List ℕ))
facts zero names t = cond (bytes_eq (word t) (codes "fact")) (bad TooManyFacts (left_at t)) (got names t)
facts (suc n) names t =
    cond (bytes_eq (word t) (codes "fact"))
    (and_then (new_name names (after_word t)) (λ w. facts n (names ++ (w ∷ []))))
    (got names t)

-- an action and its name
pub record NamedAction : Type 0 where
  pub name : List ℕ
  pub action : Action

abbrev pub action_names : List NamedAction → List (List ℕ)
action_names as' = map (λ a. a.name) as'

module _ (F : Limits) (names : List (List ℕ)) where
  -- what follows an action's name: what it needs, and its effects
  unfoldable pub action : Parser Action
  action = do
    precondition ← formula_after names (codes "needs")
    es ← effects names F.effects 0
    done (record { precondition = precondition; effects = es })

  unfoldable pub named_action : List (List ℕ) → Parser NamedAction
  named_action taken = do
    w ← new_name taken
    a ← action
    done (record { name = w; action = a })

  -- so many more actions at most, after those before
  unfoldable pub actions : ℕ → List NamedAction → Parser (List NamedAction)
  actions zero before t = cond (bytes_eq (word t) (codes "action")) (bad TooManyActions (left_at t)) (got before t)
  actions (suc n) before t =
      cond (bytes_eq (word t) (codes "action"))
      (and_then (named_action (action_names before) (after_word t)) (λ a. actions n (before ++ (a ∷ []))))
      (got before t)

-- so many more steps at most, up to the end of the text: the actions that they name
unfoldable pub steps : List (List ℕ) → ℕ → Parser (List ℕ)
steps names zero t = cond (eqb (length (word t)) 0) (got [] t) (bad TooManySteps (left_at t))
steps names (suc n) t =
    cond (eqb (length (word t)) 0)
    (got [] t)
    (and_then (found (index_of names (word t)) UnknownAction (left_at t) (after_word t)) (λ a. steps names n >>= (λ bs. done (a ∷ bs))))

-- the plan, where the word stands
unfoldable pub plan : List (List ℕ) → Parser (Option (List ℕ))
plan names t = cond (bytes_eq (word t) (codes "plan")) (and_then (steps names max_steps (after_word t)) (λ bs. done (Some bs))) (got None t)

-- what a text says
pub record Source : Type 0 where
  pub limits : Limits
  pub problem : Problem
  pub plan : Option (List ℕ)

-- a problem, once its names are known
abbrev pub problem_with : List (List ℕ) → Formula → Formula → List NamedAction → Problem
problem_with names initial goal as' = record { facts = length names; initial = initial; goal = goal; actions = map (λ a. a.action) as' }

-- what follows the facts: the formulas for start and goal, the actions, and the plan, where there is one; then the text has to end. The problem's
-- block has to keep to its limit.
unfoldable pub rest : Limits → List (List ℕ) → Parser Source
rest F names = do
  key (codes "start") NoStart
  initial ← formula names
  key (codes "goal") NoGoal
  goal ← formula names
  as' ← actions F names max_actions []
  steps ← plan (action_names as')
  place ← here
  w ← peek
  require (eqb (length w) 0) WordLeft place
  require (leb (length (encode_problem F (problem_with names initial goal as'))) max_problem_bytes) TooLong place
  done (record { limits = F; problem = problem_with names initial goal as'; plan = steps })

-- problem texts: the version, at least one fact, and the rest
unfoldable pub source : Parser Source
source = do
  F ← version
  place ← here
  names ← facts F.facts []
  require (not (eqb (length names) 0)) NoFact place
  rest F names
