-- How a run ends, as it is read in the state in lane 0. Assumes nothing.
use Rattle.std.proofs.Common.{◌≡◌, refl, sym, ap, ◌∙◌, Bool, true, false, [], ◌∷◌, ◌++◌, ℕ, codes}
use Rattle.model.specs.Kleene.{two, three}
use Rattle.model.specs.Formula.{Formula}
use Rattle.model.specs.Action.{Action, exclusive}
use Rattle.model.specs.Run.{holds_in, lowest_false}
use Rattle.model.specs.ProblemBytes.{Problem}
use Rattle.cases.specs.declared.cases.Cases.{Cases}
use Rattle.cases.specs.Cases.{case_of}
use Rattle.names.specs.Names.{Names}
use Rattle.names.specs.Texts.{fact_name}
use Rattle.explain.specs.States.{state_in, IsKnown}
use Rattle.explain.specs.Told.{false_part, block_text, end_text}
use Rattle.explain.proofs.Known.{holds-here, exclusive-here}

module _ (N : Names) (p : Problem) (c : Cases) (H : IsKnown c) where
  module _ (a : Action) where
    pub block-unmet :
        holds_in three (case_of c 0) a.precondition ≡ false →
        codes " blocked, as this is false:\n" ++ false_part N (holds_in three (case_of c 0)) a.precondition ≡ block_text N p a (state_in c)
    unfolding block_text
    block-unmet e =
        let e' : holds_in two (state_in c) a.precondition ≡ false = ap (λ (h : Formula → Bool). h a.precondition) (sym (holds-here c H)) ∙ e in
        rw (e', holds-here c H) refl

    pub block-conflict :
        p.facts ≡ c.facts → (f : ℕ) → holds_in three (case_of c 0) a.precondition ≡ true → f ≡ lowest_false c.facts (exclusive three a (case_of c 0)) →
        codes " blocked, as it would set and clear " ++ (fact_name N f ++ (10 ∷ [])) ≡ block_text N p a (state_in c)
    unfolding block_text
    block-conflict same f h e =
        let met : holds_in two (state_in c) a.precondition ≡ true = ap (λ (x : Formula → Bool). x a.precondition) (sym (holds-here c H)) ∙ h in
        rw (met, same, e, exclusive-here c H a) refl

  pub end-reached : holds_in three (case_of c 0) p.goal ≡ true → codes "end: the goal is reached\n" ≡ end_text N p (state_in c)
  unfolding end_text
  end-reached e =
      let e' : holds_in two (state_in c) p.goal ≡ true = ap (λ (h : Formula → Bool). h p.goal) (sym (holds-here c H)) ∙ e in
      rw e' refl

  pub end-missed :
      holds_in three (case_of c 0) p.goal ≡ false →
      codes "end: the goal is missed, as this is false:\n" ++ false_part N (holds_in three (case_of c 0)) p.goal ≡ end_text N p (state_in c)
  unfolding end_text
  end-missed e =
      let e' : holds_in two (state_in c) p.goal ≡ false = ap (λ (h : Formula → Bool). h p.goal) (sym (holds-here c H)) ∙ e in
      rw (e', holds-here c H) refl
