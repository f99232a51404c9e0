-- named, and not searched for, so that the reading of another line is seen to be another
use Rattle.lines.proofs.reader.ListReader.read.Goals as goal

pub returns-clause-line : goal.returns-clause-line
returns-clause-line c = rw c.cursor.ensures at c.read.ensures.line
