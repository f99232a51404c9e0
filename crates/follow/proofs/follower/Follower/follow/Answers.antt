use Rattle.std.proofs.Common.{arith, rules, sym, ◌∙◌, ◌≤◌}
use Rattle.std.proofs.lemmas.Result.{err_from_is_err_and}
use Rattle.blocks.specs.Values.{task}
use Rattle.blocks.proofs.Tasks.{task-width, task-facts}
use Rattle.follow.proofs.Lines.{not-so, moved-lanes, line-faulty, line-apart, line-denied, line-holds, case-of-line, claim-so, claim-not_so}
use Rattle.follow.proofs.follower.Follower.follow.Goals as goal

pub returns-in_err-line-clause-line : goal.returns-in_err-line-clause-line
returns-in_err-line-clause-line c same =
    let p = err_from_is_err_and c.from_residual.result c.from_residual.ensures.1 in
    let t = c.args.self.now.task.now in
    let w = task-width t ∙ sym same in
    let n = task-facts t ∙ sym c.args.self.now.facts in
    rw (p.1, p.2) (line-faulty (task t) _ _ w n _ _ _ _ _ c.in_err-line.ensures.line)

pub returns-then-not-ends_at-clause-line : goal.returns-then-not-ends_at-clause-line
returns-then-not-ends_at-clause-line c same =
    let t = c.args.self.now.task.now in
    let w = task-width t ∙ sym same in
    let n = task-facts t ∙ sym c.args.self.now.facts in
    rw c.at.ensures (line-apart (task t) _ _ w n _ _ _ _ c.in_ok-line.ensures.line (λ e. not-so c.ends_at.result c.ends_at.ensures c.if-not-ends_at.true (sym e)))

pub invariant_of-self-clause-lanes : goal.invariant_of-self-clause-lanes
invariant_of-self-clause-lanes c = moved-lanes c.set_case.new.self _ _ c.set_case.ensures.facts (λ j l. c.set_case.ensures.cases j l (c.args.self.now.lanes j l))

pub returns-then-ne-clause-line : goal.returns-then-ne-clause-line
returns-then-ne-clause-line c same =
    let t = c.args.self.now.task.now in
    let w = task-width t ∙ sym same in
    let n = task-facts t ∙ sym c.args.self.now.facts in
    let few : c.args.self.now.cases.facts ≤ c.args.reader.limits.width =
    omega (arith, c.args.self.now.facts, c.requires.few, c.requires.sensible.width)
    in
    let begins = sym (c.ends_at.ensures.0 c.if-not-ends_at.false) in
    let moved = c.set_case.ensures.cases 0 (omega arith) (c.args.self.now.lanes 0 (omega arith)) in
    let case = case-of-line (task t) _ _ w n few c.in_ok-line.line.k c.in_ok-line.line.value _ c.word_of.ensures.same _ moved in
    let claim = claim-not_so (task t) c.set_case.new.self _ c.look-looks.ensures.looks _ _ case c.kind.result c.kind.ensures c.in_ok-line.line.kind (λ e. search rules) in
    rw c.at-then-ne.ensures (line-denied (task t) _ _ w n _ _ _ _ c.in_ok-line.ensures.line begins claim)

pub with-self-requires-clause-within : goal.with-self-requires-clause-within
with-self-requires-clause-within c = omega (arith, c.in_ok-line.ensures.within, c.args.self.now.facts, c.requires.few, c.requires.sensible.width)

pub returns-clause-line : goal.returns-clause-line
returns-clause-line c same =
    let t = c.args.self.now.task.now in
    let w = task-width t ∙ sym same in
    let n = task-facts t ∙ sym c.args.self.now.facts in
    let few : c.args.self.now.cases.facts ≤ c.args.reader.limits.width =
    omega (arith, c.args.self.now.facts, c.requires.few, c.requires.sensible.width)
    in
    let begins = sym (c.ends_at.ensures.0 c.if-not-ends_at.false) in
    let moved = c.set_case.ensures.cases 0 (omega arith) (c.args.self.now.lanes 0 (omega arith)) in
    let case = case-of-line (task t) _ _ w n few c.in_ok-line.line.k c.in_ok-line.line.value _ c.word_of.ensures.same _ moved in
    let claim = claim-so (task t) c.set_case.new.self _ c.look-looks.ensures.looks _ _ case _ c.kind.ensures _ (search rules) in
    line-holds (task t) _ _ w n _ _ _ _ c.in_ok-line.ensures.line begins claim _ (rw c.look-looks.ensures.covered at c.with-self.ensures)
