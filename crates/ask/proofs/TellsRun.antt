-- The states that are told are those of the run. Assumes nothing.
use Rattle.std.proofs.Common.{◌≡◌, sym, ap, ◌∙◌, List, map, ◌++◌, ℕ, ◌+◌, ◌-◌, ◌≤◌, arith, length, take, drop, Ok, Err}
use lib.ListN.{length-map}
use Rattle.std.proofs.lemmas.List.{take-append-drop}
use Rattle.std.proofs.Math.Nat.{min-eq_left}
use Rattle.model.specs.Limits.{limits_of, max_steps}
use Rattle.model.specs.Answer.{answered}
use Rattle.model.specs.Case.{Task, state_of}
use Rattle.model.specs.Read.{head_bytes, bytes_of, block}
use Rattle.model.specs.ProblemBytes.{action_at, encode_plan}
use Rattle.model.specs.Relevance.{number_of, run_states, run_rows, rows, work_bytes}
use Rattle.model.specs.WellFormed.{Bytes}
use Rattle.model.specs.Operations.{task_of, read_task, read_both}
use Rattle.model.proofs.Laws.Tasks.{answer-then}
use Rattle.model.proofs.Laws.Reading.{length-block}
use Rattle.model.proofs.Laws.Tracing.{states-count, states-size}
use Rattle.model.proofs.Laws.Relevance.{start-length}
use Rattle.model.proofs.Laws.Lists.{n≤w}
use Rattle.model.proofs.Guarantees.{guarantees-of, read-sound, limits-sensible}
use Rattle.answers.specs.declared.answer.Answer.TheVariants as answer
use Rattle.reply.specs.StateLines.{numbered_states}
use Rattle.reply.proofs.Stating.{states-numbered}
use Rattle.ask.specs.Commands.{rows_buffer, states_of}
use Rattle.ask.specs.TellsRun.{TellsTheRun}

-- a plan that was read has a step for each byte after the header
plan-size :
    (problem plan : List ℕ) → Bytes plan → (T : Task) → read_both problem plan ≡ answered T → (length plan ≡ head_bytes + length T.plan) × (length T.plan ≤ max_steps)
unfolding read_task task_of encode_plan block bytes_of
plan-size problem plan b T h =
    answer-then h λ p e h₁.
    answer-then h₁ λ steps k h₂.
    let same : task_of (limits_of problem) p steps ≡ T = cc in
    let (ok, z) = (guarantees-of problem).all_input.plan_sound plan b (length p.actions) steps k in
    let size : length plan ≡ head_bytes + length steps = ap length z ∙ length-block 1 steps in
    let count : length T.plan ≡ length steps = ap (λ (x : Task). length x.plan) (sym same) ∙ length-map steps (action_at p.actions) in
    (omega (arith, size, count), omega (arith, count, ok.count))

module _ (T : Task) (plan : List ℕ) (size : length plan ≡ head_bytes + length T.plan) (few : length T.plan ≤ max_steps) (s : ℕ) where
  states-counted : states_of plan ≡ length (run_states T s)
  states-counted =
      let fits : length plan - head_bytes + 1 ≤ max_steps + 1 = omega (arith, size, few) in
      min-eq_left fits ∙ omega (arith, size, states-count T.facts T.plan (state_of T.width T.facts s))

pub tells-the-run : TellsTheRun
unfolding run_rows
tells-the-run N b T s set after bp bq h (Err r, call, same) = absurd (cc)
tells-the-run N b T s set after bp bq h (Ok m, call, same) =
    let problem = b.problem.now in
    let F = limits_of problem in
    let ok = read-sound problem b.plan.now T h in
    let (size, few) = plan-size problem b.plan.now bq T h in
    let k = rw h at call in
    let R = (guarantees-of problem).relevance T ok in
    let (held, rest) = R.work_holds s rows_buffer m (sym k.0) in
    let need = work_bytes T in
    let begins : after ≡ rows (run_states T s) ++ drop need after =
    sym (take-append-drop need after) ∙ ap (λ (x : List ℕ). x ++ drop need after) (ap (take need) k.1 ∙ held) in
    let states = states-size T.facts T.plan (state_of T.width T.facts s) (start-length T (n≤w F (limits-sensible problem) T ok) s) in
    let widths : numbered_states N F T.facts 0 (map (number_of F.width) (run_states T s)) ≡ numbered_states N F T.facts 0 (map (number_of T.width) (run_states T s)) =
    ap (λ (w : ℕ). numbered_states N F T.facts 0 (map (number_of w) (run_states T s))) (sym ok.width) in
    rw (states-counted T b.plan.now size few s, begins)
    (states-numbered N F T.facts 0 (run_states T s) (drop need after) states ∙ widths)
