use Rattle.std.proofs.Common.{sym, ap, ◌∙◌, true, false, not, arith, ltb-true, ltb-false}
use mathlib.Core.Bool.{false≢true}
use Rattle.formula.specs.Views.{formulas}
use Rattle.merge.specs.Views.{both_of}
use Rattle.merge.proofs.Members.{whole-deepest, over-bytes, over-members, over-depth, over-none, deep-first, deep-second}
use Rattle.merge.proofs.both.Both.is_over.Goals.{then-long, else-long, then-large, else-large}
use Rattle.merge.proofs.both.Both.is_over.Goals as goal

pub returns-then-is_none : goal.returns-then-is_none
returns-then-is_none c =
    let b = c.args.self in
    c.if-is_none.true ∙
    sym
    (elim c.if-large.branch [
      | then-large w ↦
          elim c.if-long.branch [
            | then-long x ↦ over-bytes (both_of b) (omega (arith, c.len-long.ensures, x.if-long.true))
            | else-long x ↦
                over-members (both_of b) (omega (arith, c.count-many.ensures, ltb-true _ _ (sym x.large-is ∙ w.if-large.true)))
          ]
      | else-large w ↦
          over-depth (both_of b)
          (deep-first b.shift (formulas b.first.formulas) (formulas b.second.formulas)
          (whole-deepest _ b.first 7 true b.first_whole w.past_members.ensures (w.is_none.ensures ∙ ap not (sym w.value-is ∙ c.if-is_none.true))))
    ])

pub returns-else-is_none : goal.returns-else-is_none
returns-else-is_none c =
    let b = c.args.self in
    elim c.if-large.branch [
      | then-large w ↦ absurd (false≢true (sym c.if-is_none.false ∙ w.value-is ∙ w.if-large.true))
      | else-large w ↦
          elim c.if-long.branch [
            | then-long x ↦
                absurd (omega (arith, x.if-long.true, ltb-false _ _ (sym x.large-is ∙ w.if-large.false)))
            | else-long x ↦
                sym
                (over-none (both_of b)
                (omega (arith, c.len-long.ensures, x.if-long.false))
                (omega (arith, c.count-many.ensures, ltb-false _ _ (sym x.large-is ∙ w.if-large.false))) ∙
                deep-second b.shift (formulas b.first.formulas) (formulas b.second.formulas) _
                (whole-deepest _ b.first 7 false b.first_whole w.past_members.ensures (w.is_none.ensures ∙ ap not (sym w.value-is ∙ c.if-is_none.false)))
                (whole-deepest _ b.second 7 _ b.second_whole c.past_members-else-is_none.ensures c.is_none-else-is_none.ensures))
          ]
    ]
