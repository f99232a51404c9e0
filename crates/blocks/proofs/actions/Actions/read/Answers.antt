use Rattle.std.proofs.Common.{arith, refl}
use Rattle.model.specs.Read.{answer_of}
use Rattle.formula.proofs.Readers.{next-refused, returned}
use Rattle.fields.proofs.Encoding.{action-cut}
use Rattle.blocks.proofs.Promise.{of-slice}
use Rattle.blocks.proofs.Standing.{sofar-refused, sofar-next, sofar-left, sofar-all, closed-actions, closed-begin, closed-end}
use Rattle.blocks.proofs.actions.Actions.read.Goals as goal

pub returns-in_err-next-clause-read : goal.returns-in_err-next-clause-read
unfolding answer_of
returns-in_err-next-clause-read c =
    let e = sofar-refused c.loop-i.invariant (omega arith) (next-refused _ _ _ c.in_err-next.ensures) in
    rw (returned c.from_residual.result c.from_residual.ensures.1, e)

pub loop-i-preserved : goal.loop-i-preserved
loop-i-preserved c =
    let s = c.requires.limits in
    sofar-next c.loop-i.invariant (omega arith) (omega arith)
    (action-cut _ _ _ _ _ (omega (arith, c.requires.facts, s.facts)) s.effects (of-slice c.args.block.now c.type_inv.block) c.in_ok-next.ensures)

pub returns-then-next-block-clause-read : goal.returns-then-next-block-clause-read
unfolding answer_of
returns-then-next-block-clause-read c = let e = sofar-left c.loop-i.invariant (omega arith) c.if-next-block.true in rw (c.at_byte.ensures, e)

pub returns-clause-read : goal.returns-clause-read
unfolding answer_of
returns-clause-read c =
    let e = sofar-all c.loop-i.invariant (omega arith) c.if-next-block.false in
    let k = closed-actions c.loop-i.invariant (omega arith) c.requires.count in
    rw (e, k) refl

pub invariant_of-result : goal.invariant_of-result
invariant_of-result c =
    record {
      few = c.requires.count;
      few_facts = omega (arith, c.requires.facts, c.requires.limits.facts);
      stand = closed-begin c.loop-i.invariant (omega arith) c.requires.count;
      end = closed-end c.loop-i.invariant (omega arith) c.requires.count;
    }
