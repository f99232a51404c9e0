use Rattle.std.proofs.Common.{◌∙◌}
use Rattle.model.specs.Operations.{task_of}
use Rattle.blocks.specs.Values.{task}
use Rattle.blocks.proofs.Tasks.{facts-fit}
use Rattle.runs.proofs.state.cases_of_state.Goals as goal

pub word_of-requires-clause-fits : goal.word_of-requires-clause-fits
unfolding task_of
word_of-requires-clause-fits c = c.requires

pub returns-clause-state : goal.returns-clause-state
unfolding task_of
returns-clause-state c =
    let T = task c.args.task.now in
    λ j l. c.of_state.ensures.cases j l ∙ c.word_of.ensures.same T.facts T.facts (facts-fit c.args.task.now)
