-- What a problem that was read, and a task of it, show.
use Rattle.std.specs.Prelude.{List, ℕ, length, Result}
use Rattle.model.specs.declared.Limits.{Limits}
use Rattle.model.specs.Answer.{Answer, answered, ◌>>=◌}
use Rattle.model.specs.Answers.{result_answer}
use Rattle.model.specs.declared.Refusal.{Refusal}
use Rattle.model.specs.ProblemBytes as model
use Rattle.model.specs.Case as cases
use Rattle.model.specs.Operations.{task_of}
use Rattle.blocks.specs.Problems.{problem_in}
use Rattle.blocks.specs.declared.problem.Problem.{Problem}
use Rattle.blocks.specs.declared.task.Task.{Task}

abbrev pub problem : Problem → model.Problem
problem p = problem_in p.facts p.initial p.goal p.actions

abbrev pub task : Task → cases.Task
task t = task_of t.problem.now.limits (problem t.problem.now) t.steps.now

-- what the readers answer
abbrev pub problem_read : Result Problem Refusal → Answer model.Problem
problem_read = result_answer problem

abbrev pub task_read : Result Task Refusal → Answer cases.Task
task_read = result_answer task

-- the steps of a plan, as its block is read, or its refusal
abbrev pub steps_read : Result Task Refusal → Answer (List ℕ)
steps_read = result_answer (λ t. t.steps.now)

-- what the plan in a block makes of a problem
abbrev pub task_from : Limits → model.Problem → List ℕ → Answer cases.Task
task_from F p plan = do
  steps ← model.plan_of plan (length p.actions)
  answered (task_of F p steps)
