use Rattle.std.proofs.Common.{rules, ℕ}
use Rattle.cases.specs.Facts.{unfixed}
use Rattle.cases.proofs.cases.Cases.free_facts.Goals as goal

pub returns-clause-cases : goal.returns-clause-cases
returns-clause-cases c = c.change_facts.ensures.cases (λ (j : ℕ). unfixed) (λ f v r a b was x j l. search rules)
