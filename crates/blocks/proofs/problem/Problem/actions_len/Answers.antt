use Rattle.std.proofs.Common.{arith}
use Rattle.blocks.proofs.Sizes.{whole-size}
use Rattle.blocks.proofs.problem.Problem.actions_len.Goals as goal

pub overflow_sub-result : goal.overflow_sub-result
overflow_sub-result c = omega (arith, whole-size _ _ _ c.args.self.now.sized)

pub overflow_sub-result-2 : goal.overflow_sub-result-2
overflow_sub-result-2 c = omega (arith, whole-size _ _ _ c.args.self.now.sized, c.len.ensures, c.len-2.ensures)

pub returns : goal.returns
returns c = omega (arith, whole-size _ _ _ c.args.self.now.sized, c.len.ensures, c.len-2.ensures)
