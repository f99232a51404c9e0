-- The definitions give every row, by computation. Assumes nothing.
use mathlib.Core.Path.{refl}
use Rattle.model.specs.Trials.{Hold, reply}
use Rattle.trials.specs.Survival.{survivals}

pub survivals-hold : Hold survivals
unfolding reply
survivals-hold = refl
