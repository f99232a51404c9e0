use Rattle.backward.proofs.{Words.refl, Words.bit, Sets.bit-above}
use Rattle.backward.proofs.facts.FactSet.has.Goals as goal

pub returns : goal.returns
unfolding bit
returns c = rw (bit-above c.args.fact c.requires) refl
