use Rattle.std.proofs.Common.{◌∙◌}
use Rattle.model.specs.ProblemBytes.{action_at}
use Rattle.model.proofs.Laws.Tabulate.{get_d_tabulate}
use Rattle.formula.proofs.Decoding.{part}
use Rattle.blocks.proofs.actions.Actions.get.Goals as goal

pub returns-clause-is : goal.returns-clause-is
unfolding action_at
returns-clause-is c = rw (get_d_tabulate _ _ c.args.step _ c.requires) (c.of.ensures.is ∙ rw part)
