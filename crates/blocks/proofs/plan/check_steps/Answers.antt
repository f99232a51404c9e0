use Rattle.std.proofs.Common.{◌≡◌, ◌<◌, ◌≤◌, suc, ◌+◌, ◌-◌, length, get_or, sym, ◌∙◌, arith, lt-ltb, le-ltb}
use Rattle.model.specs.{Read.◌>>=◌, Read.◌>>◌, Read.and_then, Read.position, Read.require, Read.done, Read.counted, ProblemBytes.steps}
use Rattle.formula.specs.Readings.{forgotten}
use Rattle.formula.proofs.Readers.{then_next}
use Rattle.blocks.proofs.plan.check_steps.Goals as goal

pub returns-then-actions-s : goal.returns-then-actions-s
unfolding steps ◌>>=◌ ◌>>◌ and_then position counted require forgotten
returns-then-actions-s c =
    let e : length c.args.s.now - c.loop-place.place ≡ suc (length c.args.s.now - c.loop-place.place - 1) = omega arith in
    let over : c.args.actions ≤ get_or c.args.s.now c.loop-place.place 0 = omega arith in
    rw (c.at_byte.ensures, c.loop-place.invariant, e, le-ltb _ _ over)

pub loop-place-preserved : goal.loop-place-preserved
unfolding steps ◌>>=◌ ◌>>◌ and_then position counted require done
loop-place-preserved c =
    let s = c.args.s.now in
    let e : length s - c.loop-place.place ≡ suc (length s - (c.loop-place.place + 1)) = omega arith in
    let below : get_or s c.loop-place.place 0 < c.args.actions = omega arith in
    c.loop-place.invariant ∙ rw (e, lt-ltb _ _ below) (then_next _ _)

pub returns : goal.returns
unfolding steps done forgotten
returns c =
    let e : length c.args.s.now - c.loop-place.place ≡ 0 = omega arith in
    let i : c.loop-place.place ≡ length c.args.s.now = omega arith in
    sym (rw (e, i) at c.loop-place.invariant)
