use Rattle.model.proofs.Trials.{trials-hold}
use Rattle.model.proofs.theorems.trials_hold.Goals as goal

pub returns : goal.returns
returns c = trials-hold
