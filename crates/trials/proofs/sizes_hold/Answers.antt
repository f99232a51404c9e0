use Rattle.trials.proofs.Sizes.{sizes-hold}
use Rattle.trials.proofs.sizes_hold.Goals as goal

pub returns : goal.returns
returns c = record { sizes = sizes-hold }
