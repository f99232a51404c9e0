use Rattle.model.proofs.Guarantees.{limits-sensible, read-sound}
use Rattle.certificate.proofs.Promise.{promised}
use Rattle.certificate.proofs.theorem.lists_hold.Goals as goal

pub returns-clause-tasks : goal.returns-clause-tasks
returns-clause-tasks c = promised

pub returns-clause-blocks : goal.returns-clause-blocks
returns-clause-blocks c problem plan = promised _ (limits-sensible problem) _ (read-sound problem plan)
