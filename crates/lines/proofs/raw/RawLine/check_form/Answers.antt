use Rattle.std.proofs.Common.{◌≤◌, arith}
use Rattle.std.proofs.lemmas.Bool.Decides.{nat_tests}
use Rattle.model.specs.CaseList.{first}
use Rattle.lines.specs.Lines.{form_fault}
use Rattle.lines.proofs.Forms.{past-kinds, kind_small}
use Rattle.lines.proofs.raw.RawLine.check_form.Goals as goal

pub returns-in_default-clause-line : goal.returns-in_default-clause-line
unfolding form_fault first
returns-in_default-clause-line c = let kind = past-kinds _ c.in_default.ensures in rw c.at.ensures (grind (arith, nat_tests))

pub returns-then-facts-self-clause-line : goal.returns-then-facts-self-clause-line
unfolding form_fault first
returns-then-facts-self-clause-line c =
    let kind : c.args.self.kind ≤ 1 = rw c.in-Ok.ensures (kind_small _) in
    rw c.at-then-facts-self.ensures (grind (arith, nat_tests))

pub returns-then-low_bits-ne0-clause-line : goal.returns-then-low_bits-ne0-clause-line
unfolding form_fault first
returns-then-low_bits-ne0-clause-line c =
    let kind : c.args.self.kind ≤ 1 = rw c.in-Ok.ensures (kind_small _) in
    rw c.at-then-low_bits-ne0.ensures (grind (arith, nat_tests))

pub returns-clause-line : goal.returns-clause-line
unfolding form_fault first
returns-clause-line c =
    let kind : c.args.self.kind ≤ 1 = rw c.in-Ok.ensures (kind_small _) in
    rw (← c.in-Ok.ensures) (grind (arith, nat_tests))
