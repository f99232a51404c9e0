use Rattle.std.proofs.Common.{ℕ, ◌*◌, ◌∙◌, ap, arith, mul-add}
use Rattle.lines.proofs.reader.ListReader.next_line.Goals as goal

pub of-requires-clause-inside : goal.of-requires-clause-inside
of-requires-clause-inside c =
    let r = c.args.self in
    let n = c.next_line.ensures in
    let further = ap (λ (line : ℕ). r.limits.line * line) (rw c.cursor.ensures at n.line) in
    rw (n.list, n.limits, c.cursor.ensures) (omega (arith, c.requires, further, mul-add r.limits.line r.line 1))

-- named, and not searched for, so that the same line again is seen to be the same
pub returns-clause-line : goal.returns-clause-line
returns-clause-line c = c.of.ensures.line ∙ (rw c.cursor.ensures at c.next_line.ensures.line)
