use Rattle.std.proofs.Common.{◌∙◌, ap, sym, arith, length}
use Rattle.model.specs.Marks.{group_of}
use Rattle.numbers.proofs.Writing.{remains-none, remains-more}
use Rattle.formula.proofs.Sizes.{members-fewer}
use Rattle.merge.proofs.Writing.{moved-leaf, moved-branch, moved-none, leaf-fewer}
use Rattle.merge.proofs.write.put_formulas.Goals as goal

pub put-requires : goal.put-requires
put-requires c = omega (arith, c.loop-left.invariant.room, ap length (moved-leaf c.args.shift _ _ _ _ c.in-Literal.ensures c.byte.ensures))

pub loop-left-smaller-in-Literal : goal.loop-left-smaller-in-Literal
loop-left-smaller-in-Literal c = leaf-fewer _ _ _ c.in-Literal.ensures

pub loop-left-preserved-in-Literal : goal.loop-left-preserved-in-Literal
loop-left-preserved-in-Literal c = remains-more c.loop-left.invariant c.put.ensures (moved-leaf c.args.shift _ _ _ _ c.in-Literal.ensures c.byte.ensures)

pub put_pair-requires : goal.put_pair-requires
put_pair-requires c =
    let m = c.in-Group.members in
    let e = moved-branch c.args.shift m.count _ (group_of m.group) _ _ m.few c.in-Group.ensures c.into.ensures in
    omega (arith, c.loop-left.invariant.room, ap length e)

pub loop-left-smaller : goal.loop-left-smaller
loop-left-smaller c = members-fewer _ _ _ _ c.in-Group.ensures

pub loop-left-preserved : goal.loop-left-preserved
loop-left-preserved c =
    let m = c.in-Group.members in
    let e = moved-branch c.args.shift m.count _ (group_of m.group) _ _ m.few c.in-Group.ensures c.into.ensures in
    remains-more c.loop-left.invariant c.put_pair.ensures e

pub returns : goal.returns
returns c = remains-none c.loop-left.invariant (moved-none c.args.shift _ (sym c.is_empty.ensures ∙ c.loop-left-test.false))
