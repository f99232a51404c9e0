use Rattle.backward.proofs.Words.{ap, ◌∙◌, ◌<◌, arith, is_yes}
use Rattle.backward.proofs.{States.byte-flag, Writing.putting-next, Writing.putting-ends}
use Rattle.backward.proofs.rows.put_row.Goals as goal

pub loop-f-preserved : goal.loop-f-preserved
loop-f-preserved c =
    let zero : 0 < 64 = omega arith in
    let l : c.loop-f.f < 64 = omega (arith, c.args.cases.now.few) in
    rw (byte-flag c.is_yes.result)
    (putting-next c.args.cases.now c.loop-f.f c.loop-f.row c.is_yes.result c.loop-f-test.true l (c.is_yes.ensures ∙ ap is_yes (rw c.of.ensures at (c.value.ensures 0 zero)))
    c.loop-f.invariant)

pub returns : goal.returns
returns c = putting-ends _ _ _ (omega arith) c.loop-f.invariant
