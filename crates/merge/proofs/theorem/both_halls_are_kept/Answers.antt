use Rattle.merge.proofs.Together.{keeps-both}
use Rattle.merge.proofs.theorem.both_halls_are_kept.Goals as goal

pub returns : goal.returns
returns c = keeps-both
