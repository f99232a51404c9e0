use Rattle.reply.proofs.marks.+state_number.Given as goal

abbrev pub decreases-state_number : goal.decreases-state_number
decreases-state_number l = l.width
