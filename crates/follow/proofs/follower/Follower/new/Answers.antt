use Rattle.std.proofs.Common.{arith, sym, ap, ◌∙◌, ℕ}
use Rattle.model.specs.Case as model
use Rattle.model.proofs.Laws.Splitting.{case-first}
use Rattle.follow.proofs.follower.Follower.new.Goals as goal

pub invariant_of-result : goal.invariant_of-result
invariant_of-result c =
    record {
      facts = c.first_case.ensures.facts;
      same = c.empty_state.ensures.facts ∙ sym c.first_case.ensures.facts;
      fixed = omega arith;
      lanes = λ j l. c.first_case.ensures.cases j l ∙ sym (case-first 64 _) ∙ ap (λ (n : ℕ). model.case_of 64 n 0 0) (sym c.first_case.ensures.facts);
    }
