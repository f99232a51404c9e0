-- The problem that a block holds.
use Rattle.std.specs.Prelude.{List, ℕ}
use Rattle.model.specs.Action.{Action}
use Rattle.model.specs.ProblemBytes.{Problem}
use Rattle.formula.specs.Views.{formula}
use Rattle.formula.specs.declared.formulas.Formula.{Formula}
use Rattle.blocks.specs.Actions.{actions_in}
use Rattle.blocks.specs.declared.actions.Actions.{Actions}

abbrev pub actions_of : Actions → List Action
actions_of a = actions_in a.block.now a.count a.at

abbrev pub problem_in : ℕ → Formula → Formula → Actions → Problem
problem_in facts initial goal actions =
    record { facts = facts; initial = formula initial; goal = formula goal; actions = actions_of actions }
