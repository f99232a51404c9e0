use Rattle.backward.proofs.Sets.{set-or}
use Rattle.backward.proofs.facts.FactSetBitOr.bitor.Goals as goal

pub returns : goal.returns
returns c = λ f l. set-or _ _ f
