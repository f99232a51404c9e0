use Rattle.backward.proofs.Words.{◌≡◌, refl, sym, ap, subst, ◌∙◌, not, ℕ, ◌≤◌, ◌<◌, length, take, replicate, arith, is_yes, rows, task, task-facts, task-goal, plan-length, holds_now, KeepsRow}
use Rattle.backward.proofs.Going.{own-size, AllStop, stops-tells, stops-none, stepping-begins, stepping-next, stepping-stops, stepping-tells, has-mark, has-none}
use Rattle.backward.proofs.Keeping.{keeps-size, written-next, keeping-ends}
use Rattle.backward.proofs.kept.keep_rows.Goals as goal
use Rattle.backward.proofs.kept.keep_rows.Goals.{At-loop-i, Then-is_none}

n-is : (c : At-loop-i) → c.args.cases.now.facts ≡ (task c.args.task.now).facts
n-is c = c.requires.facts ∙ sym (task-facts c.args.task.now)

now-facts : (c : At-loop-i) → c.loop-i.cases.facts ≡ c.args.cases.now.facts
now-facts c = c.loop-i.invariant.facts ∙ sym (n-is c)

-- after the loop all steps are taken
all-taken : (c : At-loop-i) → length c.args.task.now.steps.now ≤ c.loop-i.i → length c.args.task.now.steps.now ≡ c.loop-i.i
all-taken c l = omega (arith, c.loop-i.invariant.few, plan-length c.args.task.now)

pub loop-i-init : goal.loop-i-init
unfolding rows
loop-i-init c =
    let t = c.args.task.now in
    stepping-begins (task t) c.args.cases.now c.args.kept.now _ (c.requires.facts ∙ sym (task-facts t)) c.put_row.new.row (replicate 64 0) c.put_row.auto.row refl
    c.put_row.ensures (λ st. refl)

pub take-requires-clause-facts : goal.take-requires-clause-facts
take-requires-clause-facts c = let h = (goal.at.take-requires-clause-facts c).At-loop-i in c.action.ensures.facts ∙ sym c.requires.facts ∙ sym (now-facts h)

pub take-requires-clause-row : goal.take-requires-clause-row
take-requires-clause-row c =
    let h = (goal.at.take-requires-clause-row c).At-loop-i in
    own-size c.args.cases.now.facts c.loop-i.row c.args.cases.now.few c.loop-i.invariant.own ∙ sym (now-facts h)

pub returns-then-is_none-clause-facts : goal.returns-then-is_none-clause-facts
returns-then-is_none-clause-facts c = c.take.ensures.facts ∙ now-facts (goal.at.returns-then-is_none-clause-facts c).At-loop-i

-- a step cannot be taken
stops : (c : Then-is_none) → AllStop (task c.args.task.now) c.args.cases.now
stops c =
    let t = c.args.task.now in
    stepping-stops (task t) c.args.cases.now c.args.kept.now _ (c.requires.facts ∙ sym (task-facts t)) c.loop-i.i c.loop-i.cases c.loop-i.row c.loop-i.kept
    c.loop-i.invariant (omega (arith, c.loop-i-test.true, plan-length t)) _ c.action.ensures.is c.take.new.cases c.take.new.row
    (has-none _ c.loop-i.cases c.take.new.cases _ c.take.new.row c.take.result (c.is_none.ensures ∙ ap not c.if-is_none.true) c.take.ensures.takes)

pub returns-then-is_none-clause-keeps : goal.returns-then-is_none-clause-keeps
returns-then-is_none-clause-keeps c = stops-none (task c.args.task.now) c.args.cases.now (stops c) _

pub returns-then-is_none-clause-tells : goal.returns-then-is_none-clause-tells
returns-then-is_none-clause-tells c = stops-tells (task c.args.task.now) c.args.cases.now (stops c)

pub loop-i-preserved : goal.loop-i-preserved
loop-i-preserved c =
    let t = c.args.task.now in
    let same = n-is (goal.at.loop-i-preserved c).At-loop-i in
    let (k, taken) =
    has-mark _ c.loop-i.cases c.take.new.cases (take c.args.cases.now.facts c.loop-i.row) c.take.new.row c.take.result
    (c.is_none.ensures ∙ ap not c.if-is_none.false) c.take.ensures.takes
    in
    stepping-next (task t) c.args.cases.now c.args.kept.now _ same c.loop-i.i c.loop-i.cases c.loop-i.row c.loop-i.kept c.loop-i.invariant
    (omega (arith, c.loop-i-test.true, plan-length t)) _ c.action.ensures.is c.take.new.cases c.take.new.row k taken c.take.ensures.facts c.take.auto.row
    c.keep.new.kept (keeps-size c.loop-i.i (take c.args.cases.now.facts c.loop-i.row) c.loop-i.kept c.keep.new.kept c.keep.ensures)
    (written-next (task t) c.args.cases.now c.args.kept.now same c.loop-i.i c.loop-i.cases c.loop-i.row c.loop-i.kept c.loop-i.invariant c.keep.new.kept c.keep.ensures)

pub returns-clause-facts : goal.returns-clause-facts
returns-clause-facts c = now-facts (goal.at.returns-clause-facts c).At-loop-i

pub returns-clause-keeps : goal.returns-clause-keeps
returns-clause-keeps c =
    let h = (goal.at.returns-clause-keeps c).At-loop-i in
    let t = c.args.task.now in
    let K =
    subst (λ (k : ℕ). KeepsRow k (take c.args.cases.now.facts c.loop-i.row) c.loop-i.kept c.keep-2.new.kept) (all-taken h c.loop-i-test.false) c.keep-2.ensures
    in
    keeping-ends (task t) c.args.cases.now c.args.kept.now (n-is h) c.loop-i.i c.loop-i.cases c.loop-i.row c.loop-i.kept c.loop-i.invariant
    c.keep-2.new.kept K (omega (arith, c.loop-i-test.false, plan-length t))

pub returns-clause-tells : goal.returns-clause-tells
returns-clause-tells c =
    let t = c.args.task.now in
    let zero : 0 < 64 = omega arith in
    stepping-tells (task t) c.args.cases.now c.args.kept.now _ (n-is (goal.at.returns-clause-tells c).At-loop-i) c.loop-i.i c.loop-i.cases c.loop-i.row
    c.loop-i.kept c.loop-i.invariant (omega (arith, c.loop-i-test.false, plan-length t)) c.is_yes.result
    (c.is_yes.ensures ∙ ap is_yes (c.evaluate.ensures 0 zero) ∙ ap (holds_now c.loop-i.cases) (sym (task-goal t)))
