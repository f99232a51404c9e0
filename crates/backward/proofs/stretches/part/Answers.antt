use Rattle.std.proofs.Common.{◌∙◌}
use Rattle.backward.proofs.Stretching.{part-steps}
use Rattle.backward.proofs.stretches.part.Goals as goal

pub returns-clause-is : goal.returns-clause-is
returns-clause-is c = c.of.ensures.is ∙ part-steps c.args.task.now c.args.from c.args.to
