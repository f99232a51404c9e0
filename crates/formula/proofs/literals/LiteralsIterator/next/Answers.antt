use Rattle.std.proofs.Common.{arith, ap, sym, ◌∙◌, length}
use Rattle.formula.proofs.Leaves.{some-left, literal-first, group-first, none-literals}
use Rattle.formula.proofs.Sizes.{members-fewer}
use Rattle.formula.proofs.literals.LiteralsIterator.next.Goals as goal

pub next-requires : goal.next-requires
next-requires c = some-left _ (sym c.is_empty.ensures ∙ c.loop-literal-test.true)

pub returns-in-Literal-clause-steps : goal.returns-in-Literal-clause-steps
returns-in-Literal-clause-steps c = sym c.loop-literal.invariant ∙ literal-first _ _ _ c.in-Literal.ensures

pub returns-in-Literal-clause-goes : goal.returns-in-Literal-clause-goes
returns-in-Literal-clause-goes c =
    let e = ap length (sym c.loop-literal.invariant ∙ literal-first _ _ _ c.in-Literal.ensures) in
    omega (arith, e)

pub loop-literal-smaller : goal.loop-literal-smaller
loop-literal-smaller c = members-fewer _ _ _ _ c.in-Group.ensures

pub loop-literal-preserved : goal.loop-literal-preserved
loop-literal-preserved c = group-first _ _ _ _ c.in-Group.ensures ∙ c.loop-literal.invariant

pub returns-clause-steps : goal.returns-clause-steps
returns-clause-steps c =
    let e = none-literals _ (sym c.is_empty.ensures ∙ c.loop-literal-test.false) in
    (sym c.loop-literal.invariant ∙ e, e)
