use Rattle.std.proofs.Common.{arith, sym, ap, ◌∙◌}
use Rattle.model.specs.Merging.{is_over, sized}
use Rattle.merge.proofs.halls.Halls.check.Goals as goal
use Rattle.merge.proofs.halls.Halls.check.Goals.{then-is_over-via-then-is_over, then-is_over-via-else-is_over+then-is_over-2}

pub returns-then-facts-gt-MAX_FACTS_V2 : goal.returns-then-facts-gt-MAX_FACTS_V2
unfolding sized
returns-then-facts-gt-MAX_FACTS_V2 c = grind (arith, c.at.ensures, c.facts.ensures, c.if-facts-gt-MAX_FACTS_V2.true)

pub returns-then-actions-gt-MAX_ACTIONS : goal.returns-then-actions-gt-MAX_ACTIONS
unfolding sized
returns-then-actions-gt-MAX_ACTIONS c =
    grind (arith, c.at-then-actions-gt-MAX_ACTIONS.ensures, c.facts.ensures, c.if-facts-gt-MAX_FACTS_V2.false, c.actions.ensures, c.if-actions-gt-MAX_ACTIONS.true)

pub returns-then-is_over : goal.returns-then-is_over
unfolding sized
returns-then-is_over c =
    elim c.then-is_over.branch [
      | then-is_over-via-then-is_over w ↦
          let i = ap is_over (sym c.initial.ensures) ∙ sym c.is_over.ensures ∙ w.if-is_over.true in
          rw c.at-then-is_over.ensures (grind (arith, c.facts.ensures, c.if-facts-gt-MAX_FACTS_V2.false, c.actions.ensures, c.if-actions-gt-MAX_ACTIONS.false, i))
      | then-is_over-via-else-is_over+then-is_over-2 w ↦
          let g = ap is_over (sym w.goal.ensures) ∙ sym w.is_over-else-is_over.ensures ∙ w.if-is_over-2.true in
          rw c.at-then-is_over.ensures (grind (arith, c.facts.ensures, c.if-facts-gt-MAX_FACTS_V2.false, c.actions.ensures, c.if-actions-gt-MAX_ACTIONS.false, g))
    ]

pub returns-then-len-gt-MAX_BYTES : goal.returns-then-len-gt-MAX_BYTES
unfolding sized
returns-then-len-gt-MAX_BYTES c =
    let i = ap is_over (sym c.initial.ensures) ∙ sym c.is_over.ensures ∙ c.if-is_over.false in
    let g = ap is_over (sym c.goal.ensures) ∙ sym c.is_over-else-is_over.ensures ∙ c.if-is_over-2.false in
    rw c.at-then-len-gt-MAX_BYTES.ensures (grind (arith, c.facts.ensures, c.if-facts-gt-MAX_FACTS_V2.false, c.actions.ensures, c.if-actions-gt-MAX_ACTIONS.false, i, g, c.len.ensures, c.if-len-gt-MAX_BYTES.true))

pub returns : goal.returns
unfolding sized
returns c =
    let i = ap is_over (sym c.initial.ensures) ∙ sym c.is_over.ensures ∙ c.if-is_over.false in
    let g = ap is_over (sym c.goal.ensures) ∙ sym c.is_over-else-is_over.ensures ∙ c.if-is_over-2.false in
    grind (arith, c.facts.ensures, c.if-facts-gt-MAX_FACTS_V2.false, c.actions.ensures, c.if-actions-gt-MAX_ACTIONS.false, i, g, c.len.ensures, c.if-len-gt-MAX_BYTES.false)
