use Rattle.std.proofs.Common.{arith, ap, ◌∙◌}
use Rattle.formula.specs.Views.{formulas}
use Rattle.formula.specs.declared.formulas.Formulas.{Formulas}
use Rattle.merge.proofs.Members.{left-no-level, left-stops, left-passes, left-literal, left-ends}
use Rattle.merge.proofs.both.+past_members.Goals.{in-Literal, in-Group+else-levels-eq0+in_ok-rest-in-Group}
use Rattle.merge.proofs.both.+past_members.Goals as goal

pub returns-then-levels-eq0 : goal.returns-then-levels-eq0
returns-then-levels-eq0 t c = rw (left-no-level c.loop-left.invariant c.in-Group.inner c.loop-left-test.true c.in-Group.ensures c.if-levels-eq0.true)

pub returns-in_err-rest-in-Group : goal.returns-in_err-rest-in-Group
returns-in_err-rest-in-Group t c =
    rw (c.from_residual.ensures, left-stops c.loop-left.invariant c.in-Group.inner c.loop-left-test.true c.in-Group.ensures c.in_err-rest-in-Group.ensures)

pub loop-left-preserved : goal.loop-left-preserved
loop-left-preserved t c =
    let left = c.loop-left.invariant in
    let some = c.loop-left-test.true in
    let past = c.past_first-left.ensures in
    elim c.match-next.branch [
      | in-Literal w ↦ left-literal left some w.in-Literal.ensures _ past.count (past.formulas ∙ ap (λ (f : Formulas). formulas f) w.rest-is)
      | in-Group+else-levels-eq0+in_ok-rest-in-Group w ↦
          left-passes left w.in-Group.inner some w.in-Group.ensures _ (omega (arith, w.if-levels-eq0.false)) w.in_ok-rest-in-Group.ensures past.count
          (past.formulas ∙ ap (λ (f : Formulas). formulas f) w.rest-is)
    ]

pub returns : goal.returns
returns t c = left-ends c.loop-left.invariant (omega arith)
