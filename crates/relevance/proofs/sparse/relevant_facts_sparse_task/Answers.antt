use Rattle.std.proofs.Common.{rules, ◌≡◌, refl, ◌-◌, ◌++◌, drop, replicate, sym, ap, ◌∙◌, ℕ, List, ◌+◌, ◌*◌, ◌/◌, ◌≤◌, length, take, arith, length-take}
use Rattle.std.proofs.lemmas.Result.{err_from_is_err_and}
use Rattle.model.specs.{Relevance.stretch, Relevance.fewer_rows}
use Rattle.blocks.specs.Values.{task}
use Rattle.blocks.proofs.{Tasks.task-facts, Tasks.task-width, Tasks.facts-fit, Tasks.plan-length}
use Rattle.relevance.proofs.Answers.{relevant-no-state, relevant-unrun, relevant-short, relevant-found, fits-room}
use Rattle.relevance.proofs.Fewer.{traces-sparse, laid, room-after, count-is, sparse-need-is, kept-small}
use Rattle.relevance.proofs.sparse.relevant_facts_sparse_task.Goals as goal
use Rattle.relevance.proofs.sparse.relevant_facts_sparse_task.Goals.{In_ok-cases}

pub returns-in_err-cases : goal.returns-in_err-cases
returns-in_err-cases c =
    let p = err_from_is_err_and c.from_residual.result c.from_residual.ensures.1 in
    rw (p.1, p.2) (relevant-no-state fewer_rows (task c.args.task.now) c.args.state c.args.work.now _ c.in_err-cases.ensures.state)

pub returns-in_err-check_kept : goal.returns-in_err-check_kept
returns-in_err-check_kept c =
    let p = err_from_is_err_and c.from_residual-in_err-check_kept.result c.from_residual-in_err-check_kept.ensures.1 in
    let t = c.args.task.now in
    rw (p.1, p.2) (relevant-unrun fewer_rows (task t) c.args.state c.args.work.now (facts-fit t) _ c.in_ok-cases.ensures.state _ c.in_err-check_kept.ensures.checks)

-- the rows that are kept fit apart
small : (c : In_ok-cases) → (length c.args.task.now.steps.now / 16 + 1) * c.args.task.now.problem.now.facts ≤ 1088
small c = let t = c.args.task.now in kept-small t _ refl (omega (arith, c.requires.short, plan-length t))

few-facts : (c : In_ok-cases) → c.args.task.now.problem.now.facts ≤ 64
few-facts c = let p = c.args.task.now.problem.now in omega (arith, p.few_facts, p.sensible.facts)

pub check_kept-requires-clause-room : goal.check_kept-requires-clause-room
check_kept-requires-clause-room c = let d = (goal.at.check_kept-requires-clause-room c).In_ok-cases in rw d.in_ok-cases.ensures.facts (small d)

pub overflow_mul-count : goal.overflow_mul-count
overflow_mul-count c = omega (arith, small (goal.at.overflow_mul-count c).In_ok-cases)

pub overflow_add-need : goal.overflow_add-need
overflow_add-need c = let d = (goal.at.overflow_add-need c).In_ok-cases in omega (arith, small d, few-facts d)

pub returns-in_err-check_room : goal.returns-in_err-check_room
returns-in_err-check_room c =
    let p = err_from_is_err_and c.from_residual-in_err-check_room.result c.from_residual-in_err-check_room.ensures.1 in
    let t = c.args.task.now in
    rw (p.1, p.2)
    (relevant-short fewer_rows (task t) c.args.state c.args.work.now (facts-fit t) _ c.in_ok-cases.ensures.state _ c.in_ok-check_kept.ensures.checks _ (sparse-need-is t _ refl) _
    c.in_err-check_room.ensures)

pub slice_bounds-kept-end : goal.slice_bounds-kept-end
slice_bounds-kept-end c = omega (arith, small (goal.at.slice_bounds-kept-end c).In_ok-cases, c.check_kept.auto.kept)

-- the part of the rows that is copied
part :
    (c : In_ok-cases) (kept : List ℕ) → length kept ≡ 1088 →
    let count = (length c.args.task.now.steps.now / 16 + 1) * c.args.task.now.problem.now.facts in length (take count kept) ≡ count
part c kept e =
    let count = (length c.args.task.now.steps.now / 16 + 1) * c.args.task.now.problem.now.facts in
    omega (arith, length-take count kept, e, small c)

pub slice_bounds-copy_from_slice-end-3 : goal.slice_bounds-copy_from_slice-end-3
slice_bounds-copy_from_slice-end-3 c = sym (part (goal.at.slice_bounds-copy_from_slice-end-3 c).In_ok-cases _ c.check_kept.auto.kept)

pub copy_from_slice-requires : goal.copy_from_slice-requires
copy_from_slice-requires c =
    let d = (goal.at.copy_from_slice-requires c).In_ok-cases in
    let count = (length c.args.task.now.steps.now / 16 + 1) * c.args.task.now.problem.now.facts in
    omega (arith, length-take count c.args.work.now, fits-room _ _ c.in_ok-check_room.ensures) ∙ sym (part d _ c.check_kept.auto.kept)

pub returns : goal.returns
returns c =
    let t = c.args.task.now in
    let d = (goal.at.returns c).In_ok-cases in
    let copied = c.copy_from_slice.ensures.after in
    let size : length c.copy_from_slice.new.self ≡ (length t.steps.now / 16 + 1) * t.problem.now.facts = rw copied (part d _ c.check_kept.auto.kept) in
    let facts = t.problem.now.facts in
    let count = (length t.steps.now / 16 + 1) * facts in
    let facts-are : facts ≡ (task t).facts = sym (task-facts t) in
    let width-is : (task t).width ≡ t.problem.now.limits.width = task-width t in
    let after-kept = room-after c.args.work.now c.copy_from_slice.new.self count (count + 16 * facts - count) (16 * facts) size (fits-room _ _ c.in_ok-check_room.ensures) (omega arith) in
    let zeros : c.fill.new.self ≡ replicate (stretch * (task t).facts) 0 =
    c.fill.ensures.after (λ y k. search rules) ∙ ap (λ (n : ℕ). replicate n 0) (after-kept ∙ ap (λ (n : ℕ). 16 * n) facts-are)
    in
    relevant-found fewer_rows (task t) c.args.state c.args.work.now (facts-fit t) _ c.in_ok-cases.ensures.state _ c.in_ok-check_kept.ensures.checks _
    (sparse-need-is t _ refl) _ c.in_ok-check_room.ensures _ _
    (traces-sparse (task t) (facts-fit t) c.requires.within c.in_ok-cases.cases _ c.check_kept.new.kept (rw (← count-is t _ refl) (small d)) c.check_kept.ensures.keeps c.trace_stretches-relevant.result
    c.fill.new.self c.trace_stretches-relevant.new.stretch zeros c.trace_stretches-relevant.ensures c.number_of.result (λ m l h. rw width-is (c.number_of.ensures.number m (omega (arith, l, width-is)) h)) c.args.work.now c.copy_from_slice.new.self _
    count (count-is t _ refl) copied
    (laid c.args.work.now c.copy_from_slice.new.self c.trace_stretches-relevant.new.stretch count _ (count + 16 * facts) size (omega arith) refl ∙
    ap (λ (n : ℕ). c.copy_from_slice.new.self ++ (c.trace_stretches-relevant.new.stretch ++ drop n c.args.work.now)) (sparse-need-is t _ refl)))
