use Rattle.show.proofs.Lengths.{problem-is-short, plan-is-short}
use Rattle.show.proofs.theorem.shown_is_short.Goals as goal

pub returns-clause-problem : goal.returns-clause-problem
returns-clause-problem c = problem-is-short

pub returns-clause-plan : goal.returns-clause-plan
returns-clause-plan c = plan-is-short
