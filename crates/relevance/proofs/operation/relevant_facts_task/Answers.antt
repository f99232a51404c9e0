use Rattle.std.proofs.Common.{◌≡◌, refl, sym, ◌∙◌, ℕ, List, ◌+◌, ◌*◌, ◌≤◌, suc, length, take, arith, length-take}
use Rattle.std.proofs.lemmas.Result.{err_from_is_err_and}
use Rattle.blocks.specs.Values.{task}
use Rattle.blocks.proofs.{Tasks.facts-fit, Tasks.plan-length}
use Rattle.model.specs.{Relevance.work_bytes, Relevance.every_row}
use Rattle.relevance.proofs.Answers.{relevant-no-state, relevant-unrun, relevant-short, relevant-found, traces-task, need-is, need-small, has-rows}
use Rattle.relevance.proofs.operation.relevant_facts_task.Goals as goal
use Rattle.relevance.proofs.operation.relevant_facts_task.Goals.{In_ok-cases}

pub returns-in_err-cases : goal.returns-in_err-cases
returns-in_err-cases c =
    let p = err_from_is_err_and c.from_residual.result c.from_residual.ensures.1 in
    rw (p.1, p.2) (relevant-no-state every_row (task c.args.task.now) c.args.state c.args.work.now _ c.in_err-cases.ensures.state)

pub returns-in_err-check_run : goal.returns-in_err-check_run
returns-in_err-check_run c =
    let p = err_from_is_err_and c.from_residual-in_err-check_run.result c.from_residual-in_err-check_run.ensures.1 in
    let t = c.args.task.now in
    rw (p.1, p.2) (relevant-unrun every_row (task t) c.args.state c.args.work.now (facts-fit t) _ c.in_ok-cases.ensures.state _ c.in_err-check_run.ensures.checks)

-- the rows of the run fit apart, and so do the marks of its steps
small : (c : In_ok-cases) → (length c.args.task.now.steps.now + 1) * c.args.task.now.problem.now.facts ≤ 16448
small c = let t = c.args.task.now in need-small t _ refl (omega (arith, c.requires.short, plan-length t))

pub overflow_mul-need : goal.overflow_mul-need
overflow_mul-need c = omega (arith, small (goal.at.overflow_mul-need c).In_ok-cases)

pub slice_bounds-rows-end : goal.slice_bounds-rows-end
slice_bounds-rows-end c = omega (arith, small (goal.at.slice_bounds-rows-end c).In_ok-cases)

pub returns-in_err-check_room : goal.returns-in_err-check_room
returns-in_err-check_room c =
    let p = err_from_is_err_and c.from_residual-in_err-check_room.result c.from_residual-in_err-check_room.ensures.1 in
    let t = c.args.task.now in
    rw (p.1, p.2)
    (relevant-short every_row (task t) c.args.state c.args.work.now (facts-fit t) _ c.in_ok-cases.ensures.state _ c.in_ok-check_run.ensures.checks _ (need-is t _ refl) _
    c.in_err-check_room.ensures)

-- and of as many facts as the cases have
fits : (c : In_ok-cases) → suc (length c.args.task.now.steps.now) * c.in_ok-cases.cases.facts ≤ 16448
fits c =
    let t = c.args.task.now in
    let k : suc (length t.steps.now) ≡ length t.steps.now + 1 = omega arith in
    rw (k, c.in_ok-cases.ensures.facts) (small c)

pub check_run-requires-clause-room : goal.check_run-requires-clause-room
check_run-requires-clause-room c = fits (goal.at.check_run-requires-clause-room c).In_ok-cases

-- the part of the rows that is copied
part :
    (c : In_ok-cases) (rows : List ℕ) → length rows ≡ 16448 →
    let need = (length c.args.task.now.steps.now + 1) * c.args.task.now.problem.now.facts in length (take need rows) ≡ need
part c rows e =
    let need = (length c.args.task.now.steps.now + 1) * c.args.task.now.problem.now.facts in
    omega (arith, length-take need rows, e, small c)

pub slice_bounds-copy_from_slice-end-3 : goal.slice_bounds-copy_from_slice-end-3
slice_bounds-copy_from_slice-end-3 c = sym (part (goal.at.slice_bounds-copy_from_slice-end-3 c).In_ok-cases _ c.check_run.auto.rows)

pub copy_from_slice-requires : goal.copy_from_slice-requires
copy_from_slice-requires c =
    let t = c.args.task.now in
    let need = (length t.steps.now + 1) * t.problem.now.facts in
    let k : suc (length t.steps.now) ≡ length t.steps.now + 1 = omega arith in
    let room = has-rows t _ refl _ c.in_ok-check_room.ensures in
    omega (arith, length-take need c.args.work.now, rw k at room) ∙ sym (part (goal.at.copy_from_slice-requires c).In_ok-cases _ c.check_run.auto.rows)

pub returns : goal.returns
returns c =
    let t = c.args.task.now in
    let room : work_bytes (task t) ≤ 16448 = rw (← need-is t _ refl) (small (goal.at.returns c).In_ok-cases) in
    relevant-found every_row (task t) c.args.state c.args.work.now (facts-fit t) _ c.in_ok-cases.ensures.state _ c.in_ok-check_run.ensures.checks _
    (need-is t _ refl) _ c.in_ok-check_room.ensures _ _
    (traces-task (task t) (facts-fit t) c.requires.within c.in_ok-cases.cases _ c.check_run.new.rows c.check_run.new.marks room c.check_run.ensures.puts _ c.trace_marks.ensures _ _ _
    (need-is t _ refl) c.copy_from_slice.ensures.after)
