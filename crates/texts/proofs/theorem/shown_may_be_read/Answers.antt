use Rattle.std.proofs.Common.{length, length-append, arith}
use Rattle.model.specs.Limits.{limits_of}
use Rattle.names.specs.ProblemText.{problem_text, plan_text}
use Rattle.show.proofs.Lengths.{problem-is-short, plan-is-short}
use Rattle.texts.proofs.theorem.shown_may_be_read.Goals as goal

pub returns-clause-problem : goal.returns-clause-problem
returns-clause-problem c = λ N block p bytes e names. omega (arith, problem-is-short N block p bytes e names)

pub returns-clause-plan : goal.returns-clause-plan
returns-clause-plan c = λ N block plan p steps bytes plan-bytes e e' names.
    omega (
      arith,
      length-append (problem_text N (limits_of block) p) (plan_text N steps),
      problem-is-short N block p bytes e names,
      plan-is-short N plan p.facts (length p.actions) steps plan-bytes e' names,
    )
