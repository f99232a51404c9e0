use Rattle.std.proofs.Common.{sym, ◌∙◌, append-nil, arith}
use Rattle.std.specs.String.{string_bytes}
use Rattle.names.specs.Views.{names}
use Rattle.explain.specs.States.{state_in}
use Rattle.explain.proofs.Changing.{changes-next, changes-end}
use Rattle.explain.proofs.Texts.{text-next}
use Rattle.explain.proofs.steps.push_changes.Goals as goal

pub loop-fact-preserved : goal.loop-fact-preserved
loop-fact-preserved c =
    let N = names c.args.names in
    let before = state_in c.args.before.now in
    let after = state_in c.args.after.now in
    let next = changes-next N before after c.loop-fact.fact c.args.before.now.facts c.loop-fact-test.true in
    text-next _ _ _ (rw (c.is_true.ensures, c.is_true-in-loop-fact.ensures) at c.in_ok-write.ensures.bytes) (rw next at c.loop-fact.invariant)

pub returns : goal.returns
returns c =
    let N = names c.args.names in
    let end = changes-end N (state_in c.args.before.now) (state_in c.args.after.now) c.loop-fact.fact c.args.before.now.facts (omega (arith, c.loop-fact-test.false)) in
    sym (append-nil (string_bytes c.loop-fact.out)) ∙ (rw end at c.loop-fact.invariant)
