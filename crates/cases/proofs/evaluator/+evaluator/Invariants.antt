-- Each call has less to read, or as much and goes on with it. The loop has joined so many of the formulas.
use Rattle.std.proofs.Common.{◌≡◌, ℕ, ◌+◌, ◌*◌, ◌<◌}
use Rattle.model.specs.Kleene.{three}
use Rattle.model.specs.Formula.{eval}
use Rattle.model.specs.FormulaBytes.{grouped}
use Rattle.model.specs.Marks.{group_of}
use Rattle.formula.specs.Decoding.{first, after}
use Rattle.formula.specs.Views.{formulas}
use Rattle.formula.proofs.Sizes.{sizes}
use Rattle.cases.specs.Cases.{case_of, value_at}
use Rattle.cases.proofs.evaluator.+evaluator.Given as goal

abbrev pub decreases-all : goal.decreases-all
decreases-all l = 4 * sizes (formulas l.formulas.now) + 2

abbrev pub decreases-any : goal.decreases-any
decreases-any l = 4 * sizes (formulas l.formulas.now) + 2

abbrev pub decreases-join_first : goal.decreases-join_first
decreases-join_first l = 4 * sizes (formulas l.formulas.now) + 1

abbrev pub decreases-evaluate_first : goal.decreases-evaluate_first
decreases-evaluate_first l = 4 * sizes (formulas l.formulas.now)

abbrev pub invariant-join_first-loop : goal.invariant-join_first-loop
invariant-join_first-loop l =
    let all = formulas l.fn.formulas in
    ((j : ℕ) → j < 64 → value_at l.value j ≡ eval three (case_of l.cases j) (grouped (group_of l.kind) (first l.counter all))) ×
    (formulas l.left ≡ after l.counter all)
