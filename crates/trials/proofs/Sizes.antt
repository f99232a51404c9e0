-- The definitions give every row, by computation. Assumes nothing.
use mathlib.Core.Path.{refl}
use Rattle.model.specs.Trials.{Hold, reply}
use Rattle.trials.specs.Sizes.{sizes}

pub sizes-hold : Hold sizes
unfolding reply
sizes-hold = refl
