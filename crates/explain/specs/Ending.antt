-- How an explanation ends: as the run does that it tells.
use Rattle.std.specs.Prelude.{◌≡◌, Bool, List, [], ◌∷◌, ◌++◌, ℕ, ◌-◌, length, get_or, codes}
use Rattle.model.specs.declared.Limits.{Limits}
use Rattle.model.specs.Kleene.{two}
use Rattle.model.specs.Action.{Action}
use Rattle.model.specs.Run.{holds_in, Part, at_member, at_fact, Outcome, reached, missed, blocked}
use Rattle.model.specs.Case.{state_of, run_of}
use Rattle.model.specs.ProblemBytes.{Problem, action_at}
use Rattle.model.specs.Operations.{task_of}
use Rattle.names.specs.Names.{Names}
use Rattle.names.specs.Texts.{fact_name}
use Rattle.explain.specs.Rows.{rows}
use Rattle.explain.specs.Told.{false_part, step_head, explanation}

module _ (N : Names) where
  -- why an action is not applicable in the state c, by the part that blocks it
  abbrev pub blocked_text : Action → List Bool → Part → List ℕ
  blocked_text a c (at_member m) = codes " blocked, as this is false:" ++ (10 ∷ false_part N (holds_in two c) a.precondition)
  blocked_text a c (at_fact f) = codes " blocked, as it would set and clear " ++ (fact_name N f ++ (10 ∷ []))

  -- the last lines, of a run of these steps that ends so in the state c
  abbrev pub ending : Problem → List ℕ → List Bool → Outcome → List ℕ
  ending p steps c reached = codes "end: the goal is reached" ++ (10 ∷ [])
  ending p steps c missed = codes "end: the goal is missed, as this is false:" ++ (10 ∷ false_part N (holds_in two c) p.goal)
  ending p steps c (blocked s) = let b = get_or steps s.step 0 in step_head N s.step b ++ blocked_text (action_at p.actions b) c s.part

-- ends as the run: whatever state an explanation is of, its last lines are those of how the run of that state ends, which is what a verdict names
abbrev pub EndsAsTheRun : Type 0
EndsAsTheRun =
    (N : Names) (F : Limits) (p : Problem) (steps : List ℕ) (s : ℕ) →
    let T = task_of F p steps in
    let cs = rows p.facts T.plan (state_of F.width p.facts s) in
    (lead : List ℕ) × (explanation N p F steps s ≡ lead ++ ending N p steps (get_or cs (length cs - 1) []) (run_of T s))
