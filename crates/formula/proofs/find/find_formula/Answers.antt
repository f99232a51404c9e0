use Rattle.std.proofs.Common.{refl, arith, sym}
use Rattle.formula.proofs.Readers.{next-refused, returned}
use Rattle.formula.proofs.Encoding.{Cut, cut}
use Rattle.formula.proofs.find.find_formula.Goals as goal
use Rattle.formula.proofs.find.find_formula.Goals.{In_ok-next}

found : (c : In_ok-next) → Cut c.args.s.now c.args.facts c.args.at c.in_ok-next.next
found c = cut _ _ _ _ c.requires (λ i. omega (arith, c.type_inv.s i)) c.in_ok-next.ensures

pub returns-in_err-next : goal.returns-in_err-next
returns-in_err-next c =
    rw (returned c.from_residual.result c.from_residual.ensures.1) (sym (next-refused _ _ _ c.in_err-next.ensures))

pub overflow_add-at : goal.overflow_add-at
overflow_add-at c = let f = found (goal.at.overflow_add-at c).In_ok-next in omega (arith, f.begins, f.ends)

pub slice_bounds-of-count : goal.slice_bounds-of-count
slice_bounds-of-count c = (found (goal.at.slice_bounds-of-count c).In_ok-next).begins

pub slice_bounds-of-start : goal.slice_bounds-of-start
slice_bounds-of-start c = (found (goal.at.slice_bounds-of-start c).In_ok-next).begins

pub slice_bounds-of-end : goal.slice_bounds-of-end
slice_bounds-of-end c = (found (goal.at.slice_bounds-of-end c).In_ok-next).ends

pub of-requires : goal.of-requires
of-requires c =
    let f = found (goal.at.of-requires c).In_ok-next in
    record { sound = f.decoded.sound; one = rw f.decoded.is refl }

pub returns : goal.returns
returns c =
    let f = found (goal.at.returns c).In_ok-next in
    rw (c.of.ensures, f.is, f.decoded.is) refl
