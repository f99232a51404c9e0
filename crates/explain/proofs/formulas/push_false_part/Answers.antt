use Rattle.explain.specs.Told.{false_part}
use Rattle.explain.proofs.Members.{alone}
use Rattle.explain.proofs.formulas.push_false_part.Goals as goal

pub returns-in-All : goal.returns-in-All
unfolding false_part
returns-in-All c = rw (alone c.alone-alone.ensures (rw c.in-All.is at c.in-Group.ensures)) c.push_false_members.ensures

pub returns-in-Any : goal.returns-in-Any
unfolding false_part
returns-in-Any c =
    let first = rw c.in-Any.is at c.in-Group.ensures in
    rw (alone c.alone-alone.ensures first) (rw first at c.push_line.ensures)

pub returns-in-Literal : goal.returns-in-Literal
unfolding false_part
returns-in-Literal c = rw (alone c.alone-alone.ensures c.in-Literal.ensures) (rw c.in-Literal.ensures at c.push_line-in-Literal.ensures)
