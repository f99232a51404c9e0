use Rattle.std.proofs.Common.{rules}
use Rattle.commands.proofs.Numbers.{no-grant}
use Rattle.commands.proofs.command.Command.of_task.Goals as goal

pub returns-in_err-number-in-judge-clause-none : goal.returns-in_err-number-in-judge-clause-none
returns-in_err-number-in-judge-clause-none c =
    λ e. no-grant _ _ (search rules) (search rules) (search rules) c.requires.show c.requires.make (c.number.ensures.none (search rules))

pub returns-in_err-number-in-write-clause-none : goal.returns-in_err-number-in-write-clause-none
returns-in_err-number-in-write-clause-none c =
    λ e. no-grant _ _ (search rules) (search rules) (search rules) c.requires.show c.requires.make (c.number-in-write.ensures.none (search rules))

pub returns-in_err-number-in-explain-clause-none : goal.returns-in_err-number-in-explain-clause-none
returns-in_err-number-in-explain-clause-none c =
    λ e. no-grant _ _ (search rules) (search rules) (search rules) c.requires.show c.requires.make (c.number-in-explain.ensures.none (search rules))
