use Rattle.std.proofs.Common.{rules}
use Rattle.commands.proofs.Numbers.{no-grant, no-longest}
use Rattle.commands.proofs.command.Command.search.Goals as goal

pub returns-in_err-number-clause-none : goal.returns-in_err-number-clause-none
returns-in_err-number-clause-none c =
    λ e. no-longest _ _ (search rules) (search rules) (search rules) (search rules) (search rules) (search rules) (search rules) (search rules) (c.number.ensures.none (search rules))

pub returns-in_err-number-2-clause-none : goal.returns-in_err-number-2-clause-none
returns-in_err-number-2-clause-none c =
    λ e. no-grant _ _ (search rules) (search rules) (search rules) (search rules) (search rules) (c.number-2.ensures.none (search rules))
