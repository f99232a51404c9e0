-- The lines of facts, effects, actions and steps, the first of them apart from the others.
use Rattle.std.proofs.Common.{◌≡◌, refl, List, [], ◌∷◌, ◌++◌, ℕ, suc, ◌+◌, ◌-◌, ◌≤◌, ◌<◌, arith, length, get_or, drop, codes, decimal, add-one}
use Rattle.std.proofs.lemmas.List.{drop_more, drop_all, append-nil}
use Rattle.model.specs.Action.{Effect, Action}
use Rattle.model.specs.Formula.{all, none}
use Rattle.model.specs.ProblemBytes.{Problem, action_at}
use Rattle.model.specs.declared.Limits.{Limits}
use Rattle.names.specs.Names.{Names}
use Rattle.names.specs.Texts.{fact_name, action_name, formula_text}
use Rattle.names.specs.ProblemText.{literal_set, unless_always, facts_text, effects_text, needs_text, actions_text, problem_text, steps_text, plan_text}
use Rattle.names.proofs.Pieces.{joined, after-three, after-five}

module _ (N : Names) where
  -- the line of a fact, and of a step
  abbrev pub fact_line : ℕ → List ℕ
  fact_line f = codes "fact " ++ (fact_name N f ++ (10 ∷ []))

  abbrev pub step_line : ℕ → List ℕ
  step_line b = codes "  " ++ (action_name N b ++ (10 ∷ []))

  facts-more : (f n : ℕ) → facts_text N f (suc n) ≡ fact_line f ++ facts_text N (suc f) n
  unfolding facts_text
  facts-more f n = after-three (codes "fact ") (fact_name N f) (10 ∷ []) (facts_text N (suc f) n)

  -- those below `count` from f on
  pub first-fact : (f count : ℕ) → f < count → facts_text N f (count - f) ≡ fact_line f ++ facts_text N (f + 1) (count - (f + 1))
  first-fact f count h =
      let e : count - f ≡ suc (count - suc f) = omega (arith, h) in
      rw (e, add-one f) (facts-more f (count - suc f))

  pub no-fact : (f count : ℕ) → count ≤ f → facts_text N f (count - f) ≡ []
  unfolding facts_text
  no-fact f count h =
      let e : count - f ≡ 0 = omega (arith, h) in
      rw e refl

  pub first-effect : (e : Effect) (es : List Effect) → effects_text N (e ∷ es) ≡ effects_text N (e ∷ []) ++ effects_text N es
  unfolding effects_text
  first-effect e es = after-three (literal_set N e.literal) (unless_always N (codes " if ") e.condition) (10 ∷ []) (effects_text N es)

  pub no-effect : effects_text N [] ≡ []
  unfolding effects_text
  no-effect = refl

  actions-more : (i : ℕ) (a : Action) (as' : List Action) → actions_text N i (a ∷ as') ≡ actions_text N i (a ∷ []) ++ actions_text N (suc i) as'
  unfolding actions_text
  actions-more i a as' =
      rw (append-nil (effects_text N a.effects))
      (after-five (codes "action ") (action_name N i) (10 ∷ []) (needs_text N a.precondition) (effects_text N a.effects) (actions_text N (suc i) as'))

  -- those of a list from number i on
  pub first-action :
      (as' : List Action) (i : ℕ) (a : Action) → i < length as' → a ≡ action_at as' i →
      actions_text N i (drop i as') ≡ actions_text N i (a ∷ []) ++ actions_text N (i + 1) (drop (i + 1) as')
  unfolding action_at
  first-action as' i a h e =
      rw (drop_more as' i (record { precondition = all none; effects = [] }) h, e, add-one i) (actions-more i _ (drop (suc i) as'))

  pub no-action : (as' : List Action) (i : ℕ) → length as' ≤ i → actions_text N i (drop i as') ≡ []
  unfolding actions_text
  no-action as' i h = rw (drop_all i as' h) refl

  pub first-step :
      (steps : List ℕ) (i : ℕ) → i < length steps → steps_text N (drop i steps) ≡ step_line (get_or steps i 0) ++ steps_text N (drop (i + 1) steps)
  unfolding steps_text
  first-step steps i h =
      rw (drop_more steps i 0 h) (after-three (codes "  ") (action_name N (get_or steps i 0)) (10 ∷ []) (steps_text N (drop (i + 1) steps)))

  pub no-step : (steps : List ℕ) (i : ℕ) → length steps ≤ i → steps_text N (drop i steps) ≡ []
  unfolding steps_text
  no-step steps i h = rw (drop_all i steps h) refl

  -- ---- the pieces that are written by one call each

  pub effect-pieces :
      (e : Effect) → effects_text N (e ∷ []) ≡ joined (literal_set N e.literal ∷ unless_always N (codes " if ") e.condition ∷ (10 ∷ []) ∷ [])
  unfolding effects_text
  effect-pieces e = refl

  pub action-pieces :
      (i : ℕ) (a : Action) →
      actions_text N i (a ∷ []) ≡
      joined ((codes "action " ++ (action_name N i ++ (10 ∷ []))) ∷ needs_text N a.precondition ∷ effects_text N a.effects ∷ [])
  unfolding actions_text
  action-pieces i a = after-three (codes "action ") (action_name N i) (10 ∷ []) (needs_text N a.precondition ++ (effects_text N a.effects ++ []))

  pub problem-pieces :
      (F : Limits) (p : Problem) →
      problem_text N F p ≡
      joined (
      (codes "version " ++ (decimal F.version ++ (10 ∷ []))) ∷ facts_text N 0 p.facts ∷ codes "start " ∷ formula_text N p.initial ∷ codes "\ngoal " ∷
      formula_text N p.goal ∷ codes "\n" ∷ actions_text N 0 p.actions ∷ [])
  unfolding problem_text
  problem-pieces F p = rw (append-nil (actions_text N 0 p.actions)) (after-three (codes "version ") (decimal F.version) (10 ∷ []) _)

  pub plan-pieces : (steps : List ℕ) → plan_text N steps ≡ joined (codes "plan\n" ∷ steps_text N steps ∷ [])
  unfolding plan_text
  plan-pieces steps = rw (append-nil (steps_text N steps)) refl
