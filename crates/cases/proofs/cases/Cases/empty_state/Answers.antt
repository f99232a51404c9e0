use Rattle.std.proofs.Common.{ℕ, replicate}
use Rattle.std.proofs.lemmas.List.{length-replicate}
use Rattle.model.specs.Kleene.{No}
use Rattle.cases.proofs.Lanes.{case-in, cases-hold}
use Rattle.cases.proofs.Tables.{no-facts}
use Rattle.cases.proofs.cases.Cases.empty_state.Goals as goal

pub invariant_of-result : goal.invariant_of-result
invariant_of-result c =
    record {
      few = c.requires;
      hold = cases-hold _ _ (λ (j : ℕ). replicate c.args.facts No) c.requires (λ j l. length-replicate _ _) (no-facts _ _ c.all_no.ensures);
    }

pub returns-clause-cases : goal.returns-clause-cases
returns-clause-cases c =
    case-in _ _ (λ (j : ℕ). replicate c.args.facts No) c.requires (λ j l. length-replicate _ _) (no-facts _ _ c.all_no.ensures)
