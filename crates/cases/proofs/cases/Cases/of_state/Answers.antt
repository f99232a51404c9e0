use Rattle.std.proofs.Common.{◌∙◌, ap}
use Rattle.std.proofs.lemmas.List.{length-replicate}
use Rattle.cases.specs.Facts.{with_facts, bits_of}
use Rattle.cases.proofs.Facts.{state-fixed}
use Rattle.cases.proofs.cases.Cases.of_state.Goals as goal

pub returns-clause-cases : goal.returns-clause-cases
returns-clause-cases c =
    let a = c.args in
    λ j l.
    c.fix_bits.ensures.cases j l ∙ ap (with_facts 0 a.facts (bits_of a.word)) (c.empty_state-cases.ensures.cases j l) ∙
    state-fixed a.facts _ (length-replicate _ _) a.word
