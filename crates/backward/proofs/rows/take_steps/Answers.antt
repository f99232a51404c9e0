use Rattle.backward.proofs.Words.{◌≡◌, refl, sym, ap, ◌∙◌, ℕ, ◌+◌, ◌*◌, ◌≤◌, ◌<◌, length, take, replicate, get_or-set_same, get_or-set_other, arith, task, task-facts, plan-length, rows, no_mark}
use Rattle.backward.proofs.Going.{own-size, stepping-begins, stepping-stops}
use Rattle.backward.proofs.Writing.{writing-next, writing-ends, row-inside, part-length, row-put}
use lib.Seq.{sets}
use Rattle.backward.proofs.rows.take_steps.Goals as goal
use Rattle.backward.proofs.rows.take_steps.Goals.{At-loop-i}

n-is : (c : At-loop-i) → c.args.cases.now.facts ≡ (task c.args.task.now).facts
n-is c = c.requires.facts ∙ sym (task-facts c.args.task.now)

now-facts : (c : At-loop-i) → c.loop-i.cases.facts ≡ c.args.cases.now.facts
now-facts c = c.loop-i.invariant.steps.facts ∙ sym (n-is c)

-- the row of the state now, as many bytes as facts of its room
row-size : (c : At-loop-i) → length (take c.args.cases.now.facts c.loop-i.row) ≡ c.args.cases.now.facts
row-size c = own-size c.args.cases.now.facts c.loop-i.row c.args.cases.now.few c.loop-i.invariant.steps.own

-- the row that is written next has room
inside : (c : At-loop-i) → c.loop-i.i < length c.args.task.now.steps.now → c.loop-i.at + c.args.cases.now.facts ≤ length c.loop-i.rows
inside c l =
    let r =
    row-inside c.loop-i.i (length c.args.task.now.steps.now) c.args.cases.now.facts c.loop-i.at (length c.args.rows.now) l
    (c.loop-i.invariant.place ∙ ap (λ (x : ℕ). c.loop-i.i * x) (sym (n-is c))) c.requires.room
    in
    omega (arith, r, c.loop-i.invariant.steps.size)

pub loop-i-init : goal.loop-i-init
unfolding rows
loop-i-init c =
    let t = c.args.task.now in
    record {
      steps =
          stepping-begins (task t) c.args.cases.now c.args.rows.now _ (c.requires.facts ∙ sym (task-facts t)) c.put_row.new.row (replicate 64 0)
          c.put_row.auto.row refl c.put_row.ensures (λ st. refl);
      place = omega arith;
      marked = λ st z shown k l. absurd (omega arith);
    }

pub overflow_add-next : goal.overflow_add-next
overflow_add-next c = omega (arith, inside (goal.at.overflow_add-next c).At-loop-i c.loop-i-test.true)

pub slice_bounds-copy_from_slice-end : goal.slice_bounds-copy_from_slice-end
slice_bounds-copy_from_slice-end c = inside (goal.at.slice_bounds-copy_from_slice-end c).At-loop-i c.loop-i-test.true

pub take-requires-clause-facts : goal.take-requires-clause-facts
take-requires-clause-facts c = let h = (goal.at.take-requires-clause-facts c).At-loop-i in c.action-action.ensures.facts ∙ sym c.requires.facts ∙ sym (now-facts h)

pub take-requires-clause-row : goal.take-requires-clause-row
take-requires-clause-row c = let h = (goal.at.take-requires-clause-row c).At-loop-i in row-size h ∙ sym (now-facts h)

pub returns-in_default-clause-facts : goal.returns-in_default-clause-facts
returns-in_default-clause-facts c = c.take.ensures.facts ∙ now-facts (goal.at.returns-in_default-clause-facts c).At-loop-i

pub returns-in_default-clause-takes : goal.returns-in_default-clause-takes
returns-in_default-clause-takes c =
    let t = c.args.task.now in
    stepping-stops (task t) c.args.cases.now c.args.rows.now _ (n-is (goal.at.returns-in_default-clause-takes c).At-loop-i) c.loop-i.i c.loop-i.cases c.loop-i.row
    c.loop-i.rows c.loop-i.invariant.steps (omega (arith, c.loop-i-test.true, plan-length t)) _ c.action-action.ensures.is c.take.new.cases c.take.new.row
    c.in_default.ensures.takes

pub loop-i-preserved : goal.loop-i-preserved
loop-i-preserved c =
    let h = (goal.at.loop-i-preserved c).At-loop-i in
    let t = c.args.task.now in
    let n = c.args.cases.now.facts in
    let room = inside h c.loop-i-test.true in
    let copied = c.copy_from_slice.ensures.len ∙ part-length c.loop-i.at n c.loop-i.rows room in
    writing-next (task t) c.args.cases.now c.args.rows.now (n-is h) c.loop-i.i c.loop-i.at c.loop-i.cases c.loop-i.row c.loop-i.rows c.loop-i.marks
    c.loop-i.invariant (omega (arith, c.loop-i-test.true, plan-length t)) _ c.action-action.ensures.is c.take.new.cases c.take.new.row c.in-Some.mark
    c.in-Some.ensures.takes c.take.ensures.facts c.take.auto.row _
    (row-put c.loop-i.at n c.loop-i.rows c.copy_from_slice.new.self room copied ∙ ap (sets c.loop-i.rows c.loop-i.at) c.copy_from_slice.ensures.after)
    _ (λ j b. get_or-set_other c.loop-i.marks c.loop-i.i j c.in-Some.mark no_mark (omega (arith, b)))
    (get_or-set_same c.loop-i.marks c.loop-i.i c.in-Some.mark no_mark (omega (arith, c.loop-i-test.true, c.requires.marks, c.loop-i.auto.marks)))

pub returns-clause-facts : goal.returns-clause-facts
returns-clause-facts c = now-facts (goal.at.returns-clause-facts c).At-loop-i

pub returns-clause-takes : goal.returns-clause-takes
returns-clause-takes c =
    let t = c.args.task.now in
    writing-ends (task t) c.args.cases.now c.args.rows.now (n-is (goal.at.returns-clause-takes c).At-loop-i) c.loop-i.i c.loop-i.at c.loop-i.cases c.loop-i.row
    c.loop-i.rows c.loop-i.marks c.loop-i.invariant (omega (arith, c.loop-i-test.false, plan-length t))
