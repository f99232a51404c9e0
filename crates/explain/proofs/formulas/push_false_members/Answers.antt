use Rattle.std.proofs.Common.{sym, ap, ◌∙◌, ◌≡◌, append-nil, arith, ◌-◌}
use Rattle.std.specs.String.{string_bytes}
use Rattle.model.specs.Kleene.{is_yes, three}
use Rattle.model.specs.Run.{holds_in}
use Rattle.formula.specs.Decoding.{head}
use Rattle.formula.specs.Views.{formulas}
use Rattle.cases.specs.Cases.{case_of}
use Rattle.names.specs.Views.{names}
use Rattle.explain.specs.Told.{false_members}
use Rattle.explain.proofs.Members.{some-left, enough-left, members-next}
use Rattle.explain.proofs.Texts.{text-next}
use Rattle.explain.proofs.formulas.push_false_members.Goals as goal
use Rattle.explain.proofs.formulas.push_false_members.Goals.{then-not-holds+in_ok-push_line, else-not-holds}

pub evaluate_first-requires : goal.evaluate_first-requires
evaluate_first-requires c = some-left _ _ _ c.loop.invariant.0 c.loop-test.true

pub loop-preserved : goal.loop-preserved
loop-preserved c =
    let n = c.args.members.count in
    let rest = formulas c.loop.rest in
    let holds = holds_in three (case_of c.args.cases.now 0) in
    let member = c.evaluate_first.ensures in
    let is : c.is_yes-holds.result ≡ holds (head rest) = c.is_yes-holds.ensures ∙ ap is_yes (member.value 0 (omega arith)) in
    let next = members-next (names c.args.names) holds n c.loop.counter rest c.loop.invariant.0 c.loop-test.true in (
      rw member.rest (enough-left _ _ _ c.loop.invariant.0 c.loop-test.true),
      elim c.if-not-holds.branch [
        | then-not-holds+in_ok-push_line w ↦ rw (w.out-is, member.rest) (text-next _ _ _ w.in_ok-push_line.ensures (rw (next, sym is ∙ w.if-not-holds.true) at c.loop.invariant.1))
        | else-not-holds w ↦ rw (w.out-is, member.rest) (rw (next, sym is ∙ w.if-not-holds.false) at c.loop.invariant.1)
      ],
    )

pub returns : goal.returns
unfolding false_members
returns c =
    let z : c.args.members.count - c.loop.counter ≡ 0 = omega (arith, c.loop-test.false) in
    sym (append-nil (string_bytes c.loop.out)) ∙ (rw z at c.loop.invariant.1)
