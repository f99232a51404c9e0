-- named, and not searched for, so that another line is seen to be another
use Rattle.std.proofs.Common.{◌∙◌}
use Rattle.lines.proofs.reader.ListReader.at.Goals as goal

pub returns-clause-line : goal.returns-clause-line
returns-clause-line c = c.of.ensures.line ∙ c.at.ensures.line
