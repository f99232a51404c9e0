-- the test is the definition's
use Rattle.std.proofs.Common.{sym, ◌∙◌, eq-eqb, ne_eqb}
use Rattle.model.specs.Read.{and_then, require}
use Rattle.fields.specs.Headers.{length_read}
use Rattle.fields.proofs.header.check_length.Goals as goal

pub returns-then-stated-s : goal.returns-then-stated-s
unfolding length_read and_then require
returns-then-stated-s c =
    let differs = ne_eqb _ _ (λ e. c.if-stated-s.true (c.read_number-stated.ensures.value ∙ e)) in
    rw (c.at_byte.ensures, differs)

pub returns : goal.returns
unfolding length_read and_then require
returns c = let same = eq-eqb _ _ (sym c.read_number-stated.ensures.value ∙ c.if-stated-s.false) in rw same
