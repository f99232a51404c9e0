use Rattle.backward.proofs.Words.{◌≡◌, sym, ap, ◌∙◌, ℕ, ◌+◌, ◌*◌, ◌≤◌, length, arith, suc-mul, mul-le-mul_right, task, task-facts, plan-length, stretch}
use Rattle.backward.proofs.{Stretching.part-stops, Stretching.part-whole, Stretching.part-short, Writing.part-length, Writing.row-put}
use Rattle.backward.proofs.stretches.take_part.Goals as goal
use Rattle.backward.proofs.stretches.take_part.Goals.{else-take_steps-via-then-take_steps+else-steps-lt-STRETCH, else-take_steps-via-else-take_steps}

pub returns-then-steps-lt-STRETCH : goal.returns-then-steps-lt-STRETCH
returns-then-steps-lt-STRETCH c =
    let t = c.args.part.now in
    let len = length t.steps.now in
    let n = c.take_steps.new.cases.facts in
    let same : n ≡ t.problem.now.facts = c.take_steps.ensures.facts ∙ c.row_cases-cases.ensures.facts in
    let few : len + 1 ≤ stretch = omega (arith, c.if-steps-lt-STRETCH.true) in
    let room : len * n + n ≤ length c.take_steps.new.rows =
    omega (arith, mul-le-mul_right n few, suc-mul len n, c.requires.rows, ap (λ (x : ℕ). stretch * x) same, c.take_steps.auto.rows)
    in
    let size = c.put_row.auto.row ∙ part-length (len * n) n c.take_steps.new.rows room in
    part-short (task t) c.args.row.now c.args.rows.now c.row_cases-cases.result c.row_cases-cases.ensures.shows c.take_steps.new.cases
    c.take_steps.new.rows c.take_steps.new.marks c.if-take_steps.ensures.takes (omega (arith, c.if-steps-lt-STRETCH.true, plan-length t)) (len * n)
    (ap (λ (x : ℕ). x * n) (sym (plan-length t)) ∙ ap (λ (x : ℕ). length (task t).plan * x) (same ∙ sym (task-facts t))) c.put_row.new.row
    c.put_row.ensures _ (row-put (len * n) n c.take_steps.new.rows c.put_row.new.row room size)

pub returns-else-take_steps : goal.returns-else-take_steps
returns-else-take_steps c =
    let t = c.args.part.now in
    elim c.else-take_steps.branch [
      | else-take_steps-via-then-take_steps+else-steps-lt-STRETCH w ↦
          part-whole (task t) c.args.row.now c.args.rows.now c.row_cases-cases.result c.row_cases-cases.ensures.shows c.take_steps.new.cases
          c.take_steps.new.rows c.take_steps.new.marks w.if-take_steps.ensures.takes
          (omega (arith, w.if-steps-lt-STRETCH.false, c.requires.short, plan-length t))
      | else-take_steps-via-else-take_steps w ↦
          part-stops (task t) c.args.row.now c.args.rows.now c.row_cases-cases.result c.row_cases-cases.ensures.shows c.take_steps.new.cases
          c.take_steps.new.rows c.take_steps.new.marks w.if-take_steps.ensures.takes c.take_steps.new.rows
    ]
