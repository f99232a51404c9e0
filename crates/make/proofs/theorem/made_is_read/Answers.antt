use Rattle.make.proofs.MadeBlocks.{made-is-read}
use Rattle.make.proofs.theorem.made_is_read.Goals as goal

pub returns : goal.returns
returns c = made-is-read
