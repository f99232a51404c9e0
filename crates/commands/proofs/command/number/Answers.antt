use Rattle.std.specs.Str.Parse.{ParsesUnsigned, ExplainsUnsignedError, HasUnsignedDigitsIfOk}
use Rattle.clap.specs.Matches.{found_of}
use Rattle.commands.proofs.Rows.{counted, uncounted}
use Rattle.commands.proofs.command.number.Goals as goal

pub returns-clause-some : goal.returns-clause-some
returns-clause-some c =
    counted (λ bs r. ParsesUnsigned 64 10 bs r × ExplainsUnsignedError 10 bs r × HasUnsignedDigitsIfOk bs r) (λ t n h. h.0) (λ t e h. h.0) (found_of c.args.matches.now) c.args.word.now c.get_one.result c.get_one.ensures.none c.get_one.ensures.value

pub returns-clause-none : goal.returns-clause-none
returns-clause-none c =
    uncounted (λ bs r. ParsesUnsigned 64 10 bs r × ExplainsUnsignedError 10 bs r × HasUnsignedDigitsIfOk bs r) (λ t n h. h.0) (λ t e h. h.0) (found_of c.args.matches.now) c.args.word.now c.get_one.result c.get_one.ensures.none c.get_one.ensures.value
