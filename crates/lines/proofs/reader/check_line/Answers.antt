-- named, and not searched for, so that the check of another line is seen to be another
use Rattle.std.proofs.Common.{ap, ◌∙◌}
use Rattle.lines.specs.Lines.{checked}
use Rattle.lines.proofs.reader.check_line.Goals as goal

pub returns-clause-line : goal.returns-clause-line
returns-clause-line c = c.check_form.ensures.line ∙ ap (checked c.args.limits.now.width c.args.facts c.args.line) c.read.ensures.line
