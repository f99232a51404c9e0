use Rattle.std.proofs.Common.{◌≡◌, ap, ℕ, get_or, ◌+◌, ◌-◌, ◌*◌, length, take, drop, ◌∙◌, arith}
use Rattle.std.proofs.lemmas.List.{length-take, length-drop}
use Rattle.model.specs.ListBytes.{line_at}
use Rattle.model.proofs.Laws.Reading.{byte-bits}
use Rattle.lines.proofs.raw.RawLine.read.Goals as goal

pub returns-clause-line : goal.returns-clause-line
unfolding line_at
returns-clause-line c =
    let p = 5 + c.args.limits.now.line * c.args.number in
    let size : p + c.args.limits.now.line - (p + 2) ≡ c.args.limits.now.line - 2 = omega arith in
    ap (λ (v : ℕ). record { kind = get_or c.args.list.now p 0; k = get_or c.args.list.now (p + 1) 0; value = v }) (rw size at c.read_number.ensures.value)

pub returns-clause-fits : goal.returns-clause-fits
returns-clause-fits c =
    let p = 5 + c.args.limits.now.line * c.args.number in
    let long : length (take (p + c.args.limits.now.line - (p + 2)) (drop (p + 2) c.args.list.now)) ≡ c.args.limits.now.line - 2 =
    length-take (p + c.args.limits.now.line - (p + 2)) (drop (p + 2) c.args.list.now) ∙ omega (arith, length-drop (p + 2) c.args.list.now) in
    rw (c.requires.sensible.bits, ← byte-bits, ← long) c.read_number.ensures.small
