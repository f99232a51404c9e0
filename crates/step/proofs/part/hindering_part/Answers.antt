use Rattle.std.proofs.Common.{ap}
use Rattle.model.specs.Run.{at_member, at_fact, part_of}
use Rattle.step.proofs.part.hindering_part.Goals as goal

pub returns-in-Precondition : goal.returns-in-Precondition
unfolding part_of
returns-in-Precondition c = λ h. let no = rw c.in-Precondition.is at h in rw no (ap at_member c.unmet_member.ensures)

pub returns-in-Conflict : goal.returns-in-Conflict
unfolding part_of
returns-in-Conflict c = λ h. let x = rw c.in-Conflict.is at h in rw x.0 (ap at_fact x.1)
