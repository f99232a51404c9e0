use Rattle.backward.proofs.Words.{◌≡◌, refl, ap, ◌∙◌, ◌+◌, ◌*◌, ◌/◌, ◌≤◌, ◌<◌, length, arith, stretch}
use lib.Seq.{sets}
use Rattle.backward.proofs.{Writing.row-inside, Writing.part-length, Writing.row-put, Keeping.row-kept}
use Rattle.backward.proofs.kept.keep.Goals as goal

pub returns-then-i-eq0 : goal.returns-then-i-eq0
returns-then-i-eq0 c =
    let n = length c.args.row.now in
    let at = c.args.i / stretch * n in
    let last : c.args.i / stretch < c.args.i / stretch + 1 = omega arith in
    let place : at ≡ c.args.i / stretch * n = refl in
    let room : at + n ≤ length c.args.kept.now = row-inside (c.args.i / stretch) (c.args.i / stretch + 1) n at (length c.args.kept.now) last place c.requires in
    let size = c.copy_from_slice.ensures.len ∙ part-length at n c.args.kept.now room in
    row-kept c.args.i c.args.row.now c.args.kept.now _ c.if-i-eq0.true
    (row-put at n c.args.kept.now c.copy_from_slice.new.self room size ∙ ap (sets c.args.kept.now at) c.copy_from_slice.ensures.after)
