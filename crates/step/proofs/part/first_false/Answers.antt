use Rattle.std.proofs.Common.{◌∙◌, sym, ap, arith}
use Rattle.model.specs.Kleene.{is_yes}
use Rattle.step.proofs.Members.{meeting-begins, meeting-next, meeting-false, meeting-ends}
use Rattle.step.proofs.part.first_false.Goals as goal

pub loop-i-init : goal.loop-i-init
loop-i-init c = meeting-begins _ _ _ c.args.members.few

pub loop-i-preserved : goal.loop-i-preserved
loop-i-preserved c =
    let member = c.evaluate_first.ensures in
    meeting-next _ _ _ _ _ c.loop-i.invariant c.loop-i-test.true (ap is_yes (sym (member.value 0 (omega arith))) ∙ sym c.is_yes-holds.ensures ∙ c.if-not-holds.false) _
    member.rest

pub returns-then-not-holds : goal.returns-then-not-holds
returns-then-not-holds c =
    let member = c.evaluate_first.ensures in
    meeting-false _ _ _ _ _ c.loop-i.invariant c.loop-i-test.true (ap is_yes (sym (member.value 0 (omega arith))) ∙ sym c.is_yes-holds.ensures ∙ c.if-not-holds.true)

pub returns : goal.returns
returns c = sym (meeting-ends _ _ _ _ _ c.loop-i.invariant c.loop-i-test.false)
