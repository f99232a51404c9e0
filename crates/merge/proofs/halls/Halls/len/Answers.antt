use Rattle.std.proofs.Common.{arith, ap, ◌≡◌, length}
use Rattle.model.specs.Formula.{Formula}
use Rattle.model.specs.FormulaBytes.{formula_bytes}
use Rattle.model.specs.Limits.{version2}
use Rattle.blocks.specs.Values.{problem}
use Rattle.merge.specs.Views.{halls_of}
use Rattle.merge.proofs.Sizes.{both-small, halls-bytes, actions-small}
use Rattle.merge.proofs.halls.Halls.len.Goals as goal

pub overflow_add-formulas : goal.overflow_add-formulas
overflow_add-formulas c = omega (arith, c.len.ensures, both-small c.initial.result)

pub overflow_add-formulas-2 : goal.overflow_add-formulas-2
overflow_add-formulas-2 c = omega (arith, c.len.ensures, c.len-2.ensures, both-small c.initial.result, both-small c.goal.result)

pub overflow_add-actions : goal.overflow_add-actions
overflow_add-actions c =
    omega (arith, c.actions_len.ensures, c.actions_len-2.ensures, actions-small _ _ _ c.args.self.now.first.now.sized, actions-small _ _ _ c.args.self.now.second.now.sized)

pub overflow_add-result : goal.overflow_add-result
overflow_add-result c = omega (arith, c.len.ensures, c.len-2.ensures, both-small c.initial.result, both-small c.goal.result)

pub overflow_add-result-2 : goal.overflow_add-result-2
overflow_add-result-2 c =
    omega (arith, c.len.ensures, c.len-2.ensures, both-small c.initial.result, both-small c.goal.result, c.actions_len.ensures, c.actions_len-2.ensures, actions-small _ _ _ c.args.self.now.first.now.sized, actions-small _ _ _ c.args.self.now.second.now.sized)

pub returns : goal.returns
returns c =
    let h = halls_of c.args.self.now in
    let i : c.len.result ≡ length (formula_bytes h.initial) = rw c.len.ensures (ap (λ (f : Formula). length (formula_bytes f)) c.initial.ensures) in
    let g : c.len-2.result ≡ length (formula_bytes h.goal) = rw c.len-2.ensures (ap (λ (f : Formula). length (formula_bytes f)) c.goal.ensures) in
    omega (arith, i, g, c.actions_len.ensures, c.actions_len-2.ensures, halls-bytes version2 (problem c.args.self.now.first.now) (problem c.args.self.now.second.now))
