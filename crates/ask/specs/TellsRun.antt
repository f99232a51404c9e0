-- What is told of a run that reaches the goal: its states are those of the run, each on a line of its own.
use Rattle.std.specs.Prelude.{◌≡◌, List, map, ℕ, Ok}
use Rattle.model.specs.Limits.{limits_of}
use Rattle.model.specs.Answer.{answered}
use Rattle.model.specs.Case.{Task}
use Rattle.model.specs.Relevance.{number_of, run_states}
use Rattle.model.specs.WellFormed.{Bytes}
use Rattle.model.specs.Operations.{read_both}
use Rattle.names.specs.Names.{Names}
use Rattle.answers.specs.declared.answer.Answer.TheVariants as answer
use Rattle.reply.specs.StateLines.{states_text, numbered_states}
use Rattle.ask.specs.Asked.{Asked}
use Rattle.ask.specs.Commands.{rows_buffer, states_of}
use Rattle.ask.specs.declared.question.Blocks.{Blocks}
use Rattle.ask.specs.declared.question.Question.TheVariants.{Rest}

-- states of the run: what a command tells of the rows that its question has left, of the problem and the plan that are read as T
abbrev pub TellsTheRun : Type 0
TellsTheRun =
    (N : Names) (b : Blocks) (T : Task) (s set : ℕ) (rows : List ℕ) →
    Bytes b.problem.now → Bytes b.plan.now → read_both b.problem.now b.plan.now ≡ answered T → Asked (Rest b s) rows_buffer (Ok (answer.Rests set)) rows →
    let F = limits_of b.problem.now in
    states_text N F T.facts 0 (states_of b.plan.now) rows ≡ numbered_states N F T.facts 0 (map (number_of T.width) (run_states T s))
