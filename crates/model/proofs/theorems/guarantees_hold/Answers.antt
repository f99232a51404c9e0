use Rattle.model.proofs.Guarantees.{theorems-hold}
use Rattle.model.proofs.theorems.guarantees_hold.Goals as goal

pub returns : goal.returns
returns c = theorems-hold
