use Rattle.backward.proofs.Words.{◌≡◌, sym, subst, ◌∙◌, ℕ, ◌-◌, suc, arith, get_or, Action, action_at, task, task-facts, plan-length, no_mark, MattersBefore}
use Rattle.backward.proofs.Tracing.{Tracing, tracing-begins, tracing-next, tracing-ends}
use Rattle.backward.proofs.trace.trace_back.Goals as goal

pub loop-i-init : goal.loop-i-init
loop-i-init c = tracing-begins _ _ _ _ (plan-length c.args.task.now)

pub loop-i-preserved : goal.loop-i-preserved
loop-i-preserved c =
    let t = c.args.task.now in
    let i = c.loop-i.i - 1 in
    let n : c.action.result.effects.facts ≡ (task t).facts = c.action.ensures.facts ∙ sym (task-facts t) in
    let k : c.loop-i.i ≡ suc (c.loop-i.i - 1) = omega arith in
    tracing-next (task t) c.args.marks.now c.args.after (c.loop-i.i - 1) c.loop-i.matter _
    (subst (λ (x : ℕ). Tracing (task t) c.args.marks.now c.args.after x c.loop-i.matter) k c.loop-i.invariant)
    (subst (λ (m : ℕ). MattersBefore (get_or c.args.marks.now i no_mark) c.loop-i.matter m (action_at (task t).plan i) c.matters_before-matter.result) n
    (subst (λ (a : Action). MattersBefore (get_or c.args.marks.now i no_mark) c.loop-i.matter c.action.result.effects.facts a c.matters_before-matter.result)
    c.action.ensures.is c.matters_before-matter.ensures))

pub returns : goal.returns
returns c = tracing-ends _ _ _ _ _ c.loop-i.invariant (omega arith)
