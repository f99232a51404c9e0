use Rattle.std.proofs.Common.{◌∙◌}
use Rattle.cases.proofs.Lanes.{known-put}
use Rattle.cases.proofs.cases.Cases.fix.Goals as goal

pub returns-clause-cases : goal.returns-clause-cases
returns-clause-cases c =
    λ j l. (rw c.of.ensures at c.put.ensures.cases j l) ∙ known-put c.args.f c.args.yes j c.requires _ (c.known.ensures j l) _
