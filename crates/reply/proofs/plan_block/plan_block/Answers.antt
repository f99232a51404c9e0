use Rattle.std.proofs.Common.{rules}
use Rattle.model.specs.{ProblemBytes.encode_plan, Read.block}
use Rattle.reply.proofs.plan_block.plan_block.Goals as goal

pub returns : goal.returns
unfolding encode_plan block
returns c = search rules
