use Rattle.std.proofs.Common.{◌∙◌, ap}
use Rattle.std.proofs.lemmas.List.{length-replicate}
use Rattle.cases.specs.Facts.{with_facts, unfixed}
use Rattle.cases.proofs.Facts.{all-freed}
use Rattle.cases.proofs.cases.Cases.first_case.Goals as goal

pub returns-clause-cases : goal.returns-clause-cases
returns-clause-cases c =
    let a = c.args in
    λ j l.
    c.free_facts.ensures.cases j l ∙ ap (with_facts 0 a.facts unfixed) (c.empty_state-cases.ensures.cases j l) ∙
    all-freed a.facts _ (length-replicate _ _)
