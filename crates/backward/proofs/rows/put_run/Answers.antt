use Rattle.backward.proofs.Words.{◌≡◌, sym, ap, ◌∙◌, ℕ, ◌+◌, ◌*◌, ◌≤◌, ◌<◌, suc, length, arith, suc-mul, is_yes, task, task-facts, task-goal, plan-length, holds_now}
use Rattle.backward.proofs.{Going.others-stop, Going.stops-tells, Going.stops-none, Writing.puts-all, Writing.tells, Writing.part-length, Writing.row-put}
use Rattle.backward.proofs.rows.put_run.Goals as goal

-- ---- cases of another number of facts

pub returns-then-not-same-clause-puts : goal.returns-then-not-same-clause-puts
returns-then-not-same-clause-puts c =
    let t = c.args.task.now in stops-none (task t) c.args.cases.now (others-stop (task t) c.args.cases.now (λ e. omega (arith, c.if-not-same.true, e, task-facts t))) _

pub returns-then-not-same-clause-tells : goal.returns-then-not-same-clause-tells
returns-then-not-same-clause-tells c =
    let t = c.args.task.now in stops-tells (task t) c.args.cases.now (others-stop (task t) c.args.cases.now (λ e. omega (arith, c.if-not-same.true, e, task-facts t)))

-- ---- cases of the task's facts

pub returns-then-not-take_steps-clause-puts : goal.returns-then-not-take_steps-clause-puts
returns-then-not-take_steps-clause-puts c = stops-none (task c.args.task.now) c.args.cases.now c.if-not-take_steps.ensures.takes _

pub returns-then-not-take_steps-clause-tells : goal.returns-then-not-take_steps-clause-tells
returns-then-not-take_steps-clause-tells c = stops-tells (task c.args.task.now) c.args.cases.now c.if-not-take_steps.ensures.takes

pub returns-clause-puts : goal.returns-clause-puts
returns-clause-puts c =
    let t = c.args.task.now in
    let len = length t.steps.now in
    let n = c.take_steps.new.cases.facts in
    let same : n ≡ c.args.cases.now.facts = c.take_steps.ensures.facts in
    let of-task : c.args.cases.now.facts ≡ (task t).facts = omega (arith, c.if-not-same.false, task-facts t) in
    let room : len * n + n ≤ length c.take_steps.new.rows =
    omega (arith, c.requires.room, ap (λ (x : ℕ). suc len * x) same, suc-mul len n, c.take_steps.auto.rows)
    in
    let size = c.put_row.auto.row ∙ part-length (len * n) n c.take_steps.new.rows room in
    λ st z shown reaches.
    puts-all (task t) c.args.cases.now c.take_steps.new.cases c.args.rows.now c.take_steps.new.rows c.take_steps.new.marks
    c.if-not-take_steps.ensures.takes (len * n)
    (ap (λ (x : ℕ). x * n) (sym (plan-length t)) ∙ ap (λ (x : ℕ). length (task t).plan * x) (same ∙ of-task))
    c.put_row.new.row c.put_row.ensures _ (row-put (len * n) n c.take_steps.new.rows c.put_row.new.row room size) st z shown

pub returns-clause-tells : goal.returns-clause-tells
returns-clause-tells c =
    let t = c.args.task.now in
    let zero : 0 < 64 = omega arith in
    tells (task t) c.args.cases.now c.take_steps.new.cases c.args.rows.now c.take_steps.new.rows c.take_steps.new.marks
    c.if-not-take_steps.ensures.takes c.is_yes.result
    (c.is_yes.ensures ∙ ap is_yes (c.evaluate.ensures 0 zero) ∙ ap (holds_now c.take_steps.new.cases) (sym (task-goal t)))
