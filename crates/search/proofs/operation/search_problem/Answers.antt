use Rattle.std.proofs.Common.{◌∙◌, refl}
use Rattle.search.proofs.Whole.{comes-to}
use Rattle.search.proofs.operation.search_problem.Goals as goal

pub invariant_of-root : goal.invariant_of-root
invariant_of-root c =
    record {
      facts = c.fix_levels.ensures.facts ∙ c.first_case-lanes.ensures.facts;
      first = λ j l. c.fix_levels.ensures.cases j l ∙ rw (c.first_levels.ensures.is c.args.problem.now.some_facts, c.first_case-lanes.ensures.cases j l) refl;
      not_empty = c.start_lanes.ensures;
    }

pub returns-in-Ok : goal.returns-in-Ok
returns-in-Ok c = comes-to _ _ _ _ c.in-Ok.ensures _ refl

pub returns-in-Err : goal.returns-in-Err
returns-in-Err c = comes-to _ _ _ _ c.in-Err.ensures _ c.answer.ensures
