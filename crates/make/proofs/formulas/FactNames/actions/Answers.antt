use Rattle.std.proofs.Common.{◌≡◌, length, codes, arith, rules}
use Rattle.make.proofs.Parsing.{wrong_at, passed, returned, unequal}
use Rattle.make.proofs.ActionSteps.{actions-begin, actions-all, actions-full, actions-bad, actions-inner, actions-next}
use Rattle.make.proofs.formulas.FactNames.actions.Goals as goal

pub loop-word-init : goal.loop-word-init
loop-word-init c = actions-begin _ _ _ _ c.new.ensures.items c.new-2.ensures.items

pub returns-then-ne : goal.returns-then-ne
returns-then-ne c =
    actions-all _ _ _ _ _ _ c.word-word.ensures.bytes c.loop-word.invariant (unequal c.word-word.result.bytes.now c.as_slice.result.now (codes "action") _ _ c.ne.ensures c.if-ne.true c.as_slice.ensures)

pub returns-then-len-eq-MAX_ACTIONS : goal.returns-then-len-eq-MAX_ACTIONS
returns-then-len-eq-MAX_ACTIONS c =
    let full : length c.loop-word.actions.names.items ≡ 64 = omega (arith, c.loop-word.actions.names.ok.0) in
    let begins = unequal c.word-word.result.bytes.now c.as_slice.result.now (codes "action") _ _ c.ne.ensures c.if-ne.false c.as_slice.ensures in
    wrong_at _ _ _ _ _ _ _ (actions-full _ _ _ _ _ _ c.word-word.ensures.bytes c.loop-word.invariant begins full) c.at.ensures c.word-word.ensures.left

pub returns-in_err-name : goal.returns-in_err-name
returns-in_err-name c =
    let room : length c.loop-word.actions.names.items ≡ 64 → ⊥ = omega (arith, c.loop-word.actions.names.ok.0) in
    let begins = unequal c.word-word.result.bytes.now c.as_slice.result.now (codes "action") _ _ c.ne.ensures c.if-ne.false c.as_slice.ensures in
    rw (returned c.from_residual.result c.from_residual.ensures.1) (passed _ _ _ _ _ _ _ (actions-bad _ _ _ _ _ _ c.word-word.ensures.bytes c.loop-word.invariant begins room _ _ c.deref.ensures.value c.word-word.ensures.after) c.in_err-name.ensures)

pub returns-in_err-action : goal.returns-in_err-action
returns-in_err-action c =
    let room : length c.loop-word.actions.names.items ≡ 64 → ⊥ = omega (arith, c.loop-word.actions.names.ok.0) in
    let begins = unequal c.word-word.result.bytes.now c.as_slice.result.now (codes "action") _ _ c.ne.ensures c.if-ne.false c.as_slice.ensures in
    rw (returned c.from_residual-in_err-action.result c.from_residual-in_err-action.ensures.1) (passed _ _ _ _ _ _ _ (actions-inner _ _ _ _ _ _ c.word-word.ensures.bytes c.loop-word.invariant begins room _ _ c.deref.ensures.value c.word-word.ensures.after _ _ c.in_ok-name.ensures) c.in_err-action.ensures)

pub loop-word-preserved : goal.loop-word-preserved
loop-word-preserved c =
    let room : length c.loop-word.actions.names.items ≡ 64 → ⊥ = omega (arith, c.loop-word.actions.names.ok.0) in
    let begins = unequal c.word-word.result.bytes.now c.as_slice.result.now (codes "action") _ _ c.ne.ensures c.if-ne.false c.as_slice.ensures in
    actions-next _ _ _ _ _ _ c.word-word.ensures.bytes c.loop-word.invariant begins room _ _ c.deref.ensures.value c.word-word.ensures.after _ _ c.in_ok-name.ensures _ _ _ c.in_ok-action.ensures c.in_ok-push.ensures.items (search rules)
