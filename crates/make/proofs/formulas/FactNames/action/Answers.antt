use Rattle.std.proofs.Common.{◌≡◌, [], ◌∷◌, ◌++◌, ◌∙◌, rules}
use Rattle.make.specs.Views.{fact_names}
use Rattle.make.proofs.Parsing.{passed, returned, gives, fails}
use Rattle.make.proofs.EffectSteps.{action-put, action-bad, action-then}
use Rattle.make.proofs.formulas.FactNames.action.Goals as goal

pub returns-in_err-bytes : goal.returns-in_err-bytes
returns-in_err-bytes c =
    rw (returned c.from_residual.result c.from_residual.ensures.1) (passed _ _ _ _ _ _ _ (action-bad _ _ _ _ c.as_slice.ensures) c.in_err-bytes.ensures)

pub returns-in_err-effects : goal.returns-in_err-effects
returns-in_err-effects c =
    let step = action-then c.args.limits.now (fact_names c.args.self.now) _ _ c.as_slice.ensures _ _ c.in_ok-bytes.ensures.read in
    rw (returned c.from_residual-in_err-effects.result c.from_residual-in_err-effects.ensures.1) (fails _ _ _ _ _ _ step _ _ c.in_err-effects.ensures)

pub returns : goal.returns
returns c =
    let step = action-then c.args.limits.now (fact_names c.args.self.now) _ _ c.as_slice.ensures _ _ c.in_ok-bytes.ensures.read in
    let put : c.extend_from_slice.new.self.items ≡ (c.in_ok-bytes.bytes.items ++ (c.in_ok-effects.effects.count ∷ [])) ++ c.in_ok-effects.effects.bytes.items = search rules in
    gives _ _ _ _ _ _ step _ _ c.in_ok-effects.ensures (λ es are. put ∙ action-put c.in_ok-bytes.ensures.value es _ _ _ c.in_ok-bytes.ensures.is are.count are.bytes)
