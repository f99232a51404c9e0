-- What telling a run answers.
use Rattle.std.specs.Prelude.{◌≡◌, Bool, true, false, List, ◌++◌, map, ℕ, Result, Ok, Err}
use Rattle.model.specs.declared.fault.Fault.TheVariants.{StateNumber}
use Rattle.model.specs.Faults.{refusal_at}
use Rattle.model.specs.ProblemBytes.{Problem, action_at}
use Rattle.model.specs.Operations.{is_state_number}
use Rattle.names.specs.Names.{Names}
use Rattle.blocks.specs.Values.{problem, task}
use Rattle.blocks.specs.declared.task.Task.{Task}
use Rattle.explain.specs.declared.explanation.ExplainError.{ExplainError}
use Rattle.explain.specs.declared.explanation.ExplainError.TheVariants.{Refused, OutOfMemory}
use Rattle.explain.specs.Rows.{rows}
use Rattle.explain.specs.Told.{told, explanation}

-- what is told of the steps bs, numbered from i on, from the state c
abbrev pub told_from : Names → Problem → List ℕ → ℕ → List Bool → List ℕ
told_from N p bs i c = told N p bs i (rows p.facts (map (action_at p.actions) bs) c)

-- a number that is a state's: its explanation is put after what was there. Another: refused, and nothing is put.
abbrev pub Explains : Names → Task → ℕ → List ℕ → List ℕ → Result (Unit {0}) ExplainError → Type 0
Explains N t s before after (Ok u) =
    (is_state_number (task t) s ≡ true) × (after ≡ before ++ explanation N (problem t.problem.now) t.problem.now.limits t.steps.now s)
Explains N t s before after (Err (Refused r)) = (is_state_number (task t) s ≡ false) × (r ≡ refusal_at StateNumber 0) × (after ≡ before)
Explains N t s before after (Err OutOfMemory) = is_state_number (task t) s ≡ true
