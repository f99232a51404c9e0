use Rattle.std.proofs.Common.{Some, None, codes, refl, ap, ◌∙◌}
use Rattle.model.specs.Read.{block}
use Rattle.model.specs.ProblemBytes.{encode_plan}
use Rattle.make.specs.Views.{texts}
use Rattle.make.proofs.Parsing.{returned, unequal, gives, fails}
use Rattle.make.proofs.BlockSteps.{plan-none, plan-steps}
use Rattle.make.proofs.making.plan.Goals as goal

pub returns-then-ne : goal.returns-then-ne
returns-then-ne c = record {
  value = None;
  read = plan-none (texts c.args.names.now) _ _ c.word-word.ensures.bytes (unequal c.word-word.result.bytes.now c.as_slice.result.now (codes "plan") _ _ c.ne.ensures c.if-ne.true c.as_slice.ensures);
  is = refl;
}

pub returns-in_err-steps : goal.returns-in_err-steps
returns-in_err-steps c =
    let here = unequal c.word-word.result.bytes.now c.as_slice.result.now (codes "plan") _ _ c.ne.ensures c.if-ne.false c.as_slice.ensures in
    let step = plan-steps (texts c.args.names.now) _ _ c.word-word.ensures.bytes _ c.word-word.ensures.after here in
    rw (returned c.from_residual.result c.from_residual.ensures.1) (fails _ _ _ _ _ _ step _ _ c.in_err-steps.ensures)

pub returns : goal.returns
unfolding encode_plan
returns c =
    let here = unequal c.word-word.result.bytes.now c.as_slice.result.now (codes "plan") _ _ c.ne.ensures c.if-ne.false c.as_slice.ensures in
    let step = plan-steps (texts c.args.names.now) _ _ c.word-word.ensures.bytes _ c.word-word.ensures.after here in
    gives _ _ _ _ _ _ step _ _ c.in_ok-steps.ensures (λ bs is. ap (λ x. Some x) (c.in_ok-block.ensures ∙ ap (block 1) (c.deref.ensures.value ∙ is)))
