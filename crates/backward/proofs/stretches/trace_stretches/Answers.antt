use Rattle.backward.proofs.Words.{◌≡◌, refl, sym, ap, subst, ◌∙◌, ℕ, ◌+◌, ◌-◌, ◌*◌, ◌/◌, suc, take, drop, min, arith, mul_comm, Formula, Task, names, stretch, task, task-facts, task-goal, plan-length, TracesBack, TakesPart}
use Rattle.backward.proofs.Stretching.{stretch-short, Going, going-begins, going-next, going-ends}
use Rattle.backward.proofs.stretches.trace_stretches.Goals as goal

pub loop-s-init : goal.loop-s-init
loop-s-init c =
    let t = c.args.task.now in (
      refl,
      going-begins (task t) c.args.kept.now c.args.stretch.now _ c.named_facts-matter.result (ap (λ (x : ℕ). x / stretch + 1) (plan-length t))
          (λ f l. c.named_facts-matter.ensures f l ∙ ap (λ (φ : Formula). names φ f) (sym (task-goal t))),
    )

pub take_part-requires-clause-short : goal.take_part-requires-clause-short
take_part-requires-clause-short c = stretch-short c.args.task.now c.part-part.result _ c.min.result c.part-part.ensures.is c.min.ensures

pub take_part-requires-clause-marks : goal.take_part-requires-clause-marks
take_part-requires-clause-marks c =
    omega (arith, stretch-short c.args.task.now c.part-part.result _ c.min.result c.part-part.ensures.is c.min.ensures, c.loop-s.invariant.0)

pub trace_back-matter-requires : goal.trace_back-matter-requires
trace_back-matter-requires c =
    omega (arith, stretch-short c.args.task.now c.part-part.result _ c.min.result c.part-part.ensures.is c.min.ensures, c.loop-s.invariant.0, c.take_part.auto.marks)

pub loop-s-preserved : goal.loop-s-preserved
loop-s-preserved c =
    let t = c.args.task.now in
    let s = c.loop-s.s - 1 in
    let n = t.problem.now.facts in
    let k : c.loop-s.s ≡ suc s = omega (arith, c.loop-s-test.true) in
    let size : s * n + n - s * n ≡ n = omega arith in
    let row = take (s * n + n - s * n) (drop (s * n) c.args.kept.now) in
    let own : row ≡ take (task t).facts (drop (s * (task t).facts) c.args.kept.now) =
    ap (λ (m : ℕ). take m (drop (s * n) c.args.kept.now)) size ∙ ap (λ (m : ℕ). take m (drop (s * m) c.args.kept.now)) (sym (task-facts t))
    in (
      c.take_part.auto.marks ∙ c.loop-s.invariant.0,
      going-next (task t) c.args.kept.now c.args.stretch.now s c.loop-s.matter c.loop-s.stretch
          (subst (λ (x : ℕ). Going (task t) c.args.kept.now c.args.stretch.now x c.loop-s.matter c.loop-s.stretch) k c.loop-s.invariant.1) row own
          (s * stretch) c.min.result (mul_comm s stretch) (c.min.ensures ∙ ap (λ (m : ℕ). min m (s * stretch + stretch)) (sym (plan-length t))) c.take_part.new.rows c.take_part.new.marks
          (subst (λ (T : Task). TakesPart T row c.loop-s.stretch c.take_part.new.rows c.take_part.new.marks) c.part-part.ensures.is c.take_part.ensures)
          c.trace_back-matter.result
          (subst (λ (T : Task). TracesBack T c.take_part.new.marks c.loop-s.matter c.trace_back-matter.result) c.part-part.ensures.is c.trace_back-matter.ensures)
          c.take_part.auto.rows (c.requires.stretch ∙ ap (λ (m : ℕ). stretch * m) (sym (task-facts t))),
    )

pub returns : goal.returns
returns c = going-ends _ _ _ _ _ _ c.loop-s.invariant.1 (omega arith)
