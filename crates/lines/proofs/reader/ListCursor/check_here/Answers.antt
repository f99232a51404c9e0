-- named, and not searched for, so that the check of another line is seen to be another
use Rattle.lines.proofs.reader.ListCursor.check_here.Goals as goal

pub returns-clause-line : goal.returns-clause-line
returns-clause-line c = c.check_line.ensures.line
