use Rattle.std.proofs.Common.{add_assoc, ◌≡◌, refl}
use Rattle.model.specs.{FormulaBytes.formula, Read.count, Read.◌>>=◌, Read.◌>>◌, Read.and_then, Read.answer_of}
use Rattle.model.specs.ProblemBytes.{problem, problem_of, body, parts}
use Rattle.model.specs.Answer.{answered}
use Rattle.blocks.specs.{Actions.last_actions, Problems.problem_in}
use Rattle.blocks.proofs.{Problems.ending-by, Promise.of-slice, Sizes.read-sized}
use Rattle.formula.proofs.Readers.{returned}
use Rattle.blocks.proofs.problem.Problem.read_with.Goals as goal

pub returns-in_err-body-clause-read : goal.returns-in_err-body-clause-read
unfolding problem_of problem answer_of ◌>>◌ and_then
returns-in_err-body-clause-read c =
    rw (returned c.from_residual.result c.from_residual.ensures.1, ← c.in_err-body.ensures)

pub returns-in_err-facts-clause-read : goal.returns-in_err-facts-clause-read
unfolding problem_of problem body answer_of ◌>>◌ ◌>>=◌ and_then
returns-in_err-facts-clause-read c =
    let facts : _ ≡ count c.args.block.now 15 1 c.args.limits.facts c.in_ok-body.body = c.in_err-facts.ensures.is in
    rw (returned c.from_residual-in_err-facts.result c.from_residual-in_err-facts.ensures.1) (rw (← c.in_ok-body.ensures, ← facts) refl)

pub returns-in_err-count-clause-read : goal.returns-in_err-count-clause-read
unfolding problem_of problem body answer_of ◌>>◌ ◌>>=◌ and_then
returns-in_err-count-clause-read c =
    rw (returned c.from_residual-in_err-count.result c.from_residual-in_err-count.ensures.1) (rw (← c.in_ok-body.ensures, ← c.in_ok-facts.ensures.is, ← c.in_err-count.ensures.is) refl)

pub returns-in_err-initial-clause-read : goal.returns-in_err-initial-clause-read
unfolding problem_of problem body parts answer_of ◌>>◌ ◌>>=◌ and_then
returns-in_err-initial-clause-read c =
    rw (returned c.from_residual-in_err-initial.result c.from_residual-in_err-initial.ensures.1) (rw (← c.in_ok-body.ensures, ← c.in_ok-facts.ensures.is, ← c.in_ok-count.ensures.is, add_assoc c.in_ok-body.body 1 1, ← c.in_err-initial.ensures) refl)

pub returns-in_err-goal-clause-read : goal.returns-in_err-goal-clause-read
unfolding problem_of problem body parts answer_of ◌>>◌ ◌>>=◌ and_then
returns-in_err-goal-clause-read c =
    let goal : _ ≡ formula c.args.block.now c.in_ok-facts.facts c.in_ok-initial.initial.next = c.in_err-goal.ensures in
    rw (returned c.from_residual-in_err-goal.result c.from_residual-in_err-goal.ensures.1) (rw (← c.in_ok-body.ensures, ← c.in_ok-facts.ensures.is, ← c.in_ok-count.ensures.is, add_assoc c.in_ok-body.body 1 1, ← c.in_ok-initial.ensures, ← goal) refl)

pub returns-in_err-actions-clause-read : goal.returns-in_err-actions-clause-read
unfolding problem_of problem body parts answer_of ◌>>◌ ◌>>=◌ and_then
returns-in_err-actions-clause-read c =
    let last : _ ≡ answer_of (last_actions c.args.limits c.args.block.now c.in_ok-facts.facts c.in_ok-count.count c.in_ok-goal.goal.next) = c.in_err-actions.ensures.read in
    rw (returned c.from_residual-in_err-actions.result c.from_residual-in_err-actions.ensures.1)
    (rw (← c.in_ok-body.ensures, ← c.in_ok-facts.ensures.is, ← c.in_ok-count.ensures.is, add_assoc c.in_ok-body.body 1 1, ← c.in_ok-initial.ensures, ← c.in_ok-goal.ensures, ending-by, ← last) refl)

pub returns-clause-read : goal.returns-clause-read
unfolding problem_of problem body parts answer_of ◌>>◌ ◌>>=◌ and_then
returns-clause-read c =
    rw (← c.in_ok-body.ensures, ← c.in_ok-facts.ensures.is, ← c.in_ok-count.ensures.is, add_assoc c.in_ok-body.body 1 1, ← c.in_ok-initial.ensures, ← c.in_ok-goal.ensures, ending-by, ← c.in_ok-actions.ensures.read) refl

-- the sizes are those of the problem that was read
pub invariant_of-result : goal.invariant_of-result
unfolding problem_of problem body parts answer_of ◌>>◌ ◌>>=◌ and_then
invariant_of-result c =
    let p = problem_in c.in_ok-facts.facts c.in_ok-initial.initial.formula c.in_ok-goal.goal.formula c.in_ok-actions.actions in
    let e : problem_of c.args.limits c.args.block.now ≡ answered p =
    rw (← c.in_ok-body.ensures, ← c.in_ok-facts.ensures.is, ← c.in_ok-count.ensures.is, add_assoc c.in_ok-body.body 1 1, ← c.in_ok-initial.ensures, ← c.in_ok-goal.ensures, ending-by, ← c.in_ok-actions.ensures.read) refl in
    let (some, few) = c.in_ok-facts.ensures.bounded in
    record {
      sensible = c.requires;
      some_facts = some;
      few_facts = few;
      its_facts = c.in_ok-actions.ensures.facts;
      sized = read-sized c.args.limits c.requires c.args.block.now (of-slice c.args.block.now c.type_inv.block) p e;
    }
