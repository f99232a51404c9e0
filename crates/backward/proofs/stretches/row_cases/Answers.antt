use Rattle.std.proofs.Common.{◌<◌, ◌∙◌, arith}
use Rattle.backward.proofs.Reading.{lanes-one, lanes-other, reading-begins, reading-next, reading-ends}
use Rattle.cases.proofs.Lanes.{fact-literal, known-put}
use Rattle.backward.proofs.stretches.row_cases.Goals as goal
use Rattle.backward.proofs.stretches.row_cases.Goals.{then-row-f-eq1, else-row-f-eq1}

pub loop-f-init : goal.loop-f-init
loop-f-init c = reading-begins _ _ _ c.empty_state-cases.ensures.facts

pub put_declared-requires : goal.put_declared-requires
put_declared-requires c =
    let d = c.loop-f.cases in
    rw c.of.ensures (fact-literal d.facts d.few c.loop-f.f (omega (arith, c.loop-f-test.true, c.loop-f.invariant.facts)))

pub loop-f-preserved : goal.loop-f-preserved
loop-f-preserved c =
    let zero : 0 < 64 = omega arith in
    reading-next c.args.facts c.args.row.now c.loop-f.f c.loop-f.cases c.put_declared.new.self c.if-row-f-eq1.lanes c.loop-f-test.true c.loop-f.invariant
    (elim c.if-row-f-eq1.branch [
      | then-row-f-eq1 w ↦ rw w.lanes-is (lanes-one _ w.if-row-f-eq1.true)
      | else-row-f-eq1 w ↦ rw w.lanes-is (lanes-other _ w.if-row-f-eq1.false)
    ])
    c.put_declared.ensures.facts
    ((rw c.of.ensures at c.put_declared.ensures.cases 0 zero) ∙
    known-put c.loop-f.f c.if-row-f-eq1.lanes 0 (omega (arith, c.requires.facts, c.loop-f-test.true)) _ (c.known.ensures 0 zero) _)

pub returns-clause-shows : goal.returns-clause-shows
returns-clause-shows c = reading-ends _ _ _ _ c.requires.row (omega arith) c.loop-f.invariant
