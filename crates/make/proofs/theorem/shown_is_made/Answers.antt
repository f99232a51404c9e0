use Rattle.make.proofs.NumbersName.{numbers-are-names}
use Rattle.make.proofs.MadeBlocks.{shown-is-made, shown-plan-is-made}
use Rattle.make.proofs.theorem.shown_is_made.Goals as goal

pub returns-clause-problem : goal.returns-clause-problem
returns-clause-problem c = shown-is-made

pub returns-clause-plan : goal.returns-clause-plan
returns-clause-plan c = shown-plan-is-made

pub returns-clause-numbers : goal.returns-clause-numbers
returns-clause-numbers c = numbers-are-names
