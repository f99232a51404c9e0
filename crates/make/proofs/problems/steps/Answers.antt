use Rattle.std.proofs.Common.{◌≡◌, length, refl, ◌∙◌, sym, arith}
use Rattle.make.proofs.Parsing.{wrong_at}
use Rattle.make.proofs.PlanSteps.{steps-begin, steps-all, steps-full, steps-unknown, steps-next}
use Rattle.make.proofs.problems.steps.Goals as goal

pub loop-word-init : goal.loop-word-init
loop-word-init c = rw c.new-steps.ensures.items (steps-begin _ _)

pub returns-then-is_empty : goal.returns-then-is_empty
returns-then-is_empty c = record {
  value = _;
  read = steps-all _ _ _ _ _ c.word-word.ensures.bytes c.loop-word.invariant (sym c.is_empty.ensures ∙ c.if-is_empty.true);
  is = refl;
}

pub returns-then-len-eq-MAX_STEPS : goal.returns-then-len-eq-MAX_STEPS
returns-then-len-eq-MAX_STEPS c =
    let some = sym c.is_empty.ensures ∙ c.if-is_empty.false in
    let full : length c.loop-word.steps.items ≡ 256 = omega (arith, c.loop-word.steps.ok.0) in
    wrong_at _ _ _ _ _ _ _ (steps-full _ _ _ _ _ c.word-word.ensures.bytes c.loop-word.invariant some full) c.at.ensures c.word-word.ensures.left

pub returns-in_default : goal.returns-in_default
returns-in_default c =
    let some = sym c.is_empty.ensures ∙ c.if-is_empty.false in
    let room : length c.loop-word.steps.items ≡ 256 → ⊥ = omega (arith, c.loop-word.steps.ok.0) in
    wrong_at _ _ _ _ _ _ _ (steps-unknown _ _ _ _ _ c.word-word.ensures.bytes c.loop-word.invariant some room (sym c.index_of.ensures.value ∙ c.in_default.is)) c.at-in_default.ensures c.word-word.ensures.left

pub loop-word-preserved : goal.loop-word-preserved
loop-word-preserved c =
    let some = sym c.is_empty.ensures ∙ c.if-is_empty.false in
    let room : length c.loop-word.steps.items ≡ 256 → ⊥ = omega (arith, c.loop-word.steps.ok.0) in
    rw c.in_ok-push.ensures.items (steps-next _ _ _ _ _ c.word-word.ensures.bytes c.loop-word.invariant some room _ _ c.word-word.ensures.after (sym c.index_of.ensures.value ∙ c.in-Some.is))
