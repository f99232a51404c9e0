use Rattle.std.proofs.Common.{rules}
use Rattle.reply.proofs.Numbering.{number-none, number-true, number-false}
use Rattle.reply.proofs.marks.+state_number.Goals as goal

pub returns-in_default-clause-number : goal.returns-in_default-clause-number
returns-in_default-clause-number t c = number-none c.args.one c.args.width c.args.bytes.now (search rules)

pub returns-then-byte-one-clause-number : goal.returns-then-byte-one-clause-number
returns-then-byte-one-clause-number t c =
    number-true c.args.one c.args.width c.in-Some.byte.now c.state_number-below.result c.args.bytes.now c.in-Some.rest.now (search rules) (search rules) c.requires.few c.requires.word
    c.state_number-below.ensures.number

pub returns-clause-number : goal.returns-clause-number
returns-clause-number t c =
    number-false c.args.one c.args.width c.in-Some.byte.now c.state_number-below.result c.args.bytes.now c.in-Some.rest.now (search rules) (search rules) c.state_number-below.ensures.number
