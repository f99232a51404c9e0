use Rattle.std.proofs.Common.{arith}
use Rattle.backward.proofs.Sets.{set-rest, flipped}
use Rattle.backward.proofs.facts.FactSetSub.sub.Goals as goal

pub returns : goal.returns
returns c = λ f l. rw (flipped c.args.other.word (omega arith)) (set-rest _ _ f)
