use Rattle.std.proofs.Common.{◌∙◌}
use Rattle.model.specs.Run.{unmet}
use Rattle.step.proofs.Members.{alone}
use Rattle.step.proofs.part.unmet_member.Goals as goal

pub returns-in-All : goal.returns-in-All
unfolding unmet
returns-in-All c = c.first_false.ensures ∙ rw (alone c.alone.ensures (rw c.in-All.is at c.in-Group.ensures))

pub returns-in-Any : goal.returns-in-Any
unfolding unmet
returns-in-Any c = rw (alone c.alone.ensures (rw c.in-Any.is at c.in-Group.ensures))

pub returns-in-Literal : goal.returns-in-Literal
unfolding unmet
returns-in-Literal c = rw (alone c.alone.ensures c.in-Literal.ensures)
