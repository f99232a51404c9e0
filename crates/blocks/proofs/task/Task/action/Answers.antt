use Rattle.std.proofs.Common.{sym, ◌∙◌}
use Rattle.blocks.proofs.Tasks.{plan-action}
use Rattle.blocks.proofs.task.Task.action.Goals as goal

pub returns-clause-is : goal.returns-clause-is
returns-clause-is c = c.get.ensures.is ∙ sym (plan-action c.args.self.now c.args.i c.requires)
