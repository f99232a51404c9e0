use Rattle.backward.proofs.Sets.{top-shifted, set-one}
use Rattle.backward.proofs.facts.FactSet.of.Goals as goal

pub returns : goal.returns
returns c = λ f l. rw (top-shifted c.args.fact c.requires) (set-one c.args.fact c.requires f l)
