-- Problem and plan blocks, and their refusals: 10 to 25, and 30 to 34.
use Rattle.std.specs.Prelude.{List, [], ◌∷◌, ◌++◌, ℕ, zero, suc, ◌+◌, ◌-◌, length, get_or, ltb, leb}
use Rattle.model.specs.declared.Limits.{Limits}
use Rattle.model.specs.Limits.{max_actions, max_steps, max_problem_bytes}
use Rattle.model.specs.Answer.{Answer}
use Rattle.model.specs.Formula.{Formula, all, none}
use Rattle.model.specs.Action.{Effect, Action}
use Rattle.model.specs.Read.{Reader, ◌>>=◌, ◌>>◌, done, position, require, answer_of, head_bytes, byte, counted, of_version, header, count, block}
use Rattle.model.specs.FormulaBytes.{is_literal, literal_of, literal_byte, formula, encode_formula}

-- problems: facts and actions are known by their numbers, from 0 on
pub record Problem : Type 0 where
  pub facts : ℕ
  pub initial : Formula
  pub goal : Formula
  pub actions : List Action

module _ (s : List ℕ) (facts : ℕ) where
  -- an effect: a literal's byte, refused with 23 where its fact is not declared and then with 24 where it is below `least`, which is one above the
  -- byte of the effect before; and its condition
  unfoldable pub effect : ℕ → Reader Effect
  effect least = do
    p ← position
    b ← byte s (length s) 14
    require (is_literal facts b) 23 p
    require (leb least b) 24 p
    condition ← formula s facts
    done (record { literal = literal_of b; condition = condition })

  -- the bytes of an action's literals rise
  unfoldable pub effects : ℕ → ℕ → Reader (List Effect)
  effects zero least = done []
  effects (suc n) least = do
    e ← effect least
    es ← effects n (literal_byte e.literal + 1)
    done (e ∷ es)

module _ (F : Limits) (s : List ℕ) where
  module _ (facts : ℕ) where
    -- the effects of an action: 22 for a count over the limit, and then so many
    unfoldable pub effect_list : Reader (List Effect)
    effect_list = do
      n ← count s 22 0 F.effects
      effects s facts n 0

    -- action bytes: its precondition, and its effects
    unfoldable pub action : Reader Action
    action = do
      precondition ← formula s facts
      es ← effect_list
      done (record { precondition = precondition; effects = es })

    unfoldable pub actions : ℕ → Reader (List Action)
    actions zero = done []
    actions (suc m) = do
      a ← action
      as' ← actions m
      done (a ∷ as')

  -- the actions, and then the block has to end: 25 at the first byte after them
  unfoldable pub ending : ℕ → ℕ → Formula → Formula → Reader Problem
  ending facts m initial goal = do
    as' ← actions facts m
    p ← position
    require (leb (length s) p) 25 p
    done (record { facts = facts; initial = initial; goal = goal; actions = as' })

  -- what follows the counts: the formulas for start and goal, and the actions
  unfoldable pub parts : ℕ → ℕ → Reader Problem
  parts facts m = do
    initial ← formula s facts
    goal ← formula s facts
    ending facts m initial goal

  -- the body of a problem block: the count of facts, else 15, and of actions, else 16, a byte each; and the rest
  unfoldable pub body : Reader Problem
  body = do
    facts ← count s 15 1 F.facts
    m ← count s 16 0 max_actions
    parts facts m

  -- problem block: its header, and then its body
  unfoldable pub problem : Reader Problem
  problem = do
    header s 10 max_problem_bytes (of_version s F.version 12)
    body

  unfoldable pub problem_of : Answer Problem
  problem_of = answer_of (problem 0)

module _ (s : List ℕ) where
  -- so many steps, which the block's length counts: 34 at a step that is no action's number
  unfoldable pub steps : ℕ → ℕ → Reader (List ℕ)
  steps m zero = done []
  steps m (suc n) = do
    p ← position
    b ← counted s
    require (ltb b m) 34 p
    bs ← steps m n
    done (b ∷ bs)

  -- plan block: for m actions: 30, at the most bytes that one may have, if it has more; 31 to 33 for its header; then a byte a step. A plan's
  -- version is 1.
  unfoldable pub plan : ℕ → Reader (List ℕ)
  plan m = do
    header s 30 (head_bytes + max_steps) (of_version s 1 32)
    steps m (length s - head_bytes)

  unfoldable pub plan_of : ℕ → Answer (List ℕ)
  plan_of m = answer_of (plan m 0)

-- the action that a step names
unfoldable pub action_at : List Action → ℕ → Action
action_at as' i = get_or as' i (record { precondition = all none; effects = [] })

-- The same layouts, written.
unfoldable pub effects_bytes : List Effect → List ℕ
effects_bytes [] = []
effects_bytes (e ∷ es) = literal_byte e.literal ∷ (encode_formula e.condition ++ effects_bytes es)

unfoldable pub action_bytes : Action → List ℕ
action_bytes a = encode_formula a.precondition ++ (length a.effects ∷ effects_bytes a.effects)

unfoldable pub actions_bytes : List Action → List ℕ
actions_bytes [] = []
actions_bytes (a ∷ as') = action_bytes a ++ actions_bytes as'

unfoldable pub encode_problem : Limits → Problem → List ℕ
encode_problem F p =
    block F.version
    (p.facts ∷ length p.actions ∷ (encode_formula p.initial ++ (encode_formula p.goal ++ actions_bytes p.actions)))

unfoldable pub encode_plan : List ℕ → List ℕ
encode_plan steps = block 1 steps
