use Rattle.std.proofs.Common.{ap, ◌/◌, ◌%◌, ◌^◌, ℕ, eqb, arith}
use Rattle.model.specs.Case.{bit}
use Rattle.told.proofs.states.StateText.holds.Goals as goal

pub returns : goal.returns
unfolding bit
returns c = ap (λ (k : ℕ). eqb (c.args.self.now.state / 2 ^ k % 2) 1) (omega arith)
