use Rattle.std.proofs.Common.{sym, ap, ◌∙◌}
use Rattle.model.specs.{Formula.Formula, Operations.task_of, Relevance.names}
use Rattle.blocks.specs.Values.{task}
use Rattle.blocks.proofs.Tasks.{facts-fit, task-goal}
use Rattle.relevance.proofs.Answers.{traces-marks}
use Rattle.relevance.proofs.operation.trace_marks.Goals as goal

pub returns : goal.returns
unfolding task_of
returns c =
    let t = c.args.task.now in
    traces-marks (task t) (facts-fit t) c.args.marks.now _ _ (λ f l. c.named_facts.ensures f l ∙ ap (λ (φ : Formula). names φ f) (sym (task-goal t)))
    c.trace_back-relevant.ensures _ c.number_of.ensures.number
