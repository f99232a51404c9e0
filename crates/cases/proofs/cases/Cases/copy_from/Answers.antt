use Rattle.cases.proofs.Copying.{copied-hold, copied-cases}
use Rattle.cases.proofs.cases.Cases.copy_from.Goals as goal

pub invariant_of-self : goal.invariant_of-self
invariant_of-self c =
    record { few = c.args.self.now.few; hold = copied-hold c.args.self.now c.args.other.now c.requires _ c.copy_facts.ensures }

pub returns-clause-cases : goal.returns-clause-cases
returns-clause-cases c = copied-cases c.args.self.now c.args.other.now c.requires _ c.copy_facts.ensures
