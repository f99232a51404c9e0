use Rattle.std.proofs.Common.{rules}
use Rattle.model.specs.Read.{block}
use Rattle.make.proofs.making.block.Goals as goal

pub returns : goal.returns
unfolding block
returns c = search rules
