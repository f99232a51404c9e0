use Rattle.std.proofs.Common.{◌∙◌, arith}
use Rattle.model.proofs.Laws.Planes.{bit-small, bit-ones, bit-zero}
use Rattle.cases.proofs.words.spread.Goals as goal

pub returns-then-lane_bit-eq1 : goal.returns-then-lane_bit-eq1
returns-then-lane_bit-eq1 c = λ j l. bit-ones j l ∙ omega arith

pub returns-else-lane_bit-eq1 : goal.returns-else-lane_bit-eq1
returns-else-lane_bit-eq1 c = λ j l. bit-zero j ∙ omega (arith, bit-small c.args.lane c.args.word)
