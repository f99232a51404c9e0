-- named, and not searched for, so that the check of another line is seen to be another
use Rattle.lines.proofs.reader.ListReader.check_here.Goals as goal

pub returns-clause-line : goal.returns-clause-line
returns-clause-line c = rw c.cursor.ensures at c.check_here.ensures.line
