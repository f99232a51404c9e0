use Rattle.backward.proofs.Sets.{set-none}
use Rattle.backward.proofs.facts.FactSet.only_if.Goals as goal

pub returns-else-so : goal.returns-else-so
returns-else-so c = λ f l. rw (c.if-so.false) (set-none f)
