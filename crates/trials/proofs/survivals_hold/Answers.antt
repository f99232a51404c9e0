use Rattle.trials.proofs.Survival.{survivals-hold}
use Rattle.trials.proofs.survivals_hold.Goals as goal

pub returns : goal.returns
returns c = record { survivals = survivals-hold }
