use Rattle.std.proofs.Common.{rules, ℕ, ◌≡◌, ◌∙◌, ◌-◌, eqb}
use Rattle.model.specs.Kleene.{known}
use Rattle.model.specs.Planes.{lane_bit}
use Rattle.cases.specs.Facts.{bits_of}
use Rattle.cases.specs.Cases.{value_at}
use Rattle.cases.proofs.Facts.{word-bit}
use Rattle.cases.proofs.cases.Cases.fix_bits.Goals as goal

pub returns-clause-cases : goal.returns-clause-cases
returns-clause-cases c =
    c.change_facts.ensures.cases (λ (j : ℕ). bits_of c.args.word)
    (λ f v r a b was x j l.
    let e : value_at r j ≡ known (eqb (lane_bit (64 - 1 - f) c.args.word) 1) = search rules in
    e ∙ word-bit _ _)
