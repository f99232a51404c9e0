use Rattle.std.proofs.Common.{◌≡◌, ◌+◌, sym}
use Rattle.model.specs.{Limits.max_steps, Read.head_bytes, Read.of_version, Read.header, Read.◌>>◌, Read.and_then, ProblemBytes.plan}
use Rattle.formula.specs.Readings.{forgotten}
use Rattle.fields.proofs.Readers.{header-got}
use Rattle.formula.proofs.Readers.{returned}
use Rattle.blocks.proofs.plan.check_plan.Goals as goal

pub returns-in_err-at : goal.returns-in_err-at
unfolding plan ◌>>◌ and_then forgotten
returns-in_err-at c =
    let head : _ ≡ header c.args.s.now 30 (head_bytes + max_steps) (of_version c.args.s.now 1 32) 0 = c.in_err-at.ensures in
    rw (returned c.from_residual.result c.from_residual.ensures.1, ← head)

pub check_steps-requires : goal.check_steps-requires
check_steps-requires c = let h = header-got _ _ _ _ _ _ (sym c.in_ok-at.ensures) in rw h.1 h.0

pub returns : goal.returns
unfolding plan ◌>>◌ and_then
returns c = rw (← c.in_ok-at.ensures, ← (header-got _ _ _ _ _ _ (sym c.in_ok-at.ensures)).1) c.check_steps.ensures
