-- Each call goes a level down. What is left of the members decides for all of them.
use Rattle.merge.proofs.Members.{Left}
use Rattle.merge.proofs.both.+past_members.Given as goal

abbrev pub decreases-past_members : goal.decreases-past_members
decreases-past_members l = l.levels

abbrev pub invariant-loop-left : goal.invariant-loop-left
invariant-loop-left l = Left l.fn.members l.fn.levels l.left

abbrev pub decreases-loop-left : goal.decreases-loop-left
decreases-loop-left l = l.left.count
