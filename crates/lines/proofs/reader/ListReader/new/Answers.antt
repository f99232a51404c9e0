-- named, and not searched for, so that another list is seen to be another
use Rattle.std.proofs.Common.{◌∙◌}
use Rattle.lines.proofs.reader.ListReader.new.Goals as goal

pub returns-clause-list : goal.returns-clause-list
returns-clause-list c = c.of.ensures.list ∙ c.new.ensures.list
