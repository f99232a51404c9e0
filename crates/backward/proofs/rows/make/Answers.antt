use Rattle.std.proofs.Common.{sym, ◌∙◌, ◌<◌, arith}
use Rattle.backward.proofs.{States.byte-flag, Making.lanes-yes, Making.lanes-no, Making.making-fact, Making.making-next, Making.making-ends}
use Rattle.cases.proofs.Lanes.{fact-literal, known-put}
use Rattle.backward.proofs.rows.make.Goals as goal
use Rattle.backward.proofs.rows.make.Goals.{then-yes, else-yes}

pub put_declared-requires : goal.put_declared-requires
put_declared-requires c =
    let x = c.args.changes in
    let F = c.in-Some.ensures.steps in
    let M = c.loop-fact.invariant in
    let d = c.loop-fact.cases in
    let l = c.requires.inside _ F.few (making-fact x c.args.cases.now c.args.row.now _ _ _ F d c.loop-fact.row M) in
    rw c.of.ensures (fact-literal d.facts d.few c.in-Some.fact (omega (arith, l, M.facts)))

pub loop-fact-preserved : goal.loop-fact-preserved
loop-fact-preserved c =
    let x = c.args.changes in
    let F = c.in-Some.ensures.steps in
    let M = c.loop-fact.invariant in
    let zero : 0 < 64 = omega arith in
    let changes = making-fact x c.args.cases.now c.args.row.now _ _ _ F c.loop-fact.cases c.loop-fact.row M in
    rw (byte-flag c.has-yes.result, c.has-yes.ensures)
    (making-next x c.args.cases.now c.args.row.now _ _ _ F c.loop-fact.cases c.loop-fact.row M (c.requires.inside _ F.few changes) c.put_declared.new.self
    c.if-yes.lanes
    (elim c.if-yes.branch [
      | then-yes w ↦ rw w.lanes-is (lanes-yes _ (sym c.has-yes.ensures ∙ w.if-yes.true))
      | else-yes w ↦ rw w.lanes-is (lanes-no _ (sym c.has-yes.ensures ∙ w.if-yes.false))
    ])
    c.put_declared.ensures.facts
    ((rw c.of.ensures at c.put_declared.ensures.cases 0 zero) ∙ known-put c.in-Some.fact c.if-yes.lanes 0 F.few _ (c.known.ensures 0 zero) _))

pub returns-clause-makes : goal.returns-clause-makes
returns-clause-makes c = making-ends c.args.changes c.args.cases.now c.args.row.now _ c.in-None.ensures.steps _ _ c.loop-fact.invariant
