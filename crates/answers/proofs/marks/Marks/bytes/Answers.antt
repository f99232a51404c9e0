use Rattle.std.proofs.Common.{rules, ◌∙◌, ◌++◌, ◌∷◌, [], List, ℕ, ap₂, arith}
use Rattle.std.proofs.{Math.ListN.length-set, lemmas.List.take_more_set}
use Rattle.model.specs.DeskText.{marks}
use Rattle.answers.proofs.Marking.{marks-more}
use Rattle.answers.proofs.marks.Marks.bytes.Goals as goal

pub loop-fact-init : goal.loop-fact-init
unfolding marks
loop-fact-init c = search rules

pub loop-fact-preserved : goal.loop-fact-preserved
loop-fact-preserved c = (
  simp length-set c.loop-fact.invariant.0,
  take_more_set c.loop-fact.bytes c.loop-fact.fact _ (omega (arith, c.loop-fact.invariant.0)) ∙
      ap₂ (λ (t : List ℕ) (x : ℕ). t ++ (x ∷ [])) c.loop-fact.invariant.1 c.mark.ensures ∙ marks-more _ _ _ _,
)
