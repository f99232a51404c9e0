use Rattle.std.proofs.Common.{rules, ℕ, ◌-◌, ◌∙◌}
use Rattle.cases.specs.Blocks.{level_value}
use Rattle.cases.proofs.Blocks.{block-levels}
use Rattle.cases.proofs.cases.Cases.fix_levels.Goals as goal

pub returns-clause-cases : goal.returns-clause-cases
returns-clause-cases c =
    λ i k.
    c.change_facts.ensures.cases (λ (j f : ℕ). level_value (f - c.args.k) j) (λ f v r a b was x j l. search rules) i k ∙
    block-levels _ c.args.k c.args.levels i
