use Rattle.std.proofs.Common.{◌∙◌, ap}
use Rattle.cases.specs.Facts.{with_facts, bits_of, unfixed}
use Rattle.cases.proofs.Facts.{case-changed}
use Rattle.cases.proofs.cases.Cases.set_case.Goals as goal

pub returns-clause-cases : goal.returns-clause-cases
returns-clause-cases c =
    let a = c.args in
    let s = c.requires.common in
    λ j l e.
    c.free_facts.ensures.cases j l ∙ ap (with_facts a.to.fixed a.from.fixed unfixed) (c.fix_bits.ensures.cases j l) ∙
    ap (λ v. with_facts a.to.fixed a.from.fixed unfixed (with_facts a.common a.to.fixed (bits_of a.to.word) v)) e ∙
    case-changed a.self.now.facts a.from.fixed a.from.word a.to.fixed a.to.word a.common s.first s.alike
