use Rattle.backward.proofs.Sets.{set-and}
use Rattle.backward.proofs.facts.FactSetBitAnd.bitand.Goals as goal

pub returns : goal.returns
returns c = λ f l. set-and _ _ f
