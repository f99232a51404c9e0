use Rattle.std.proofs.Common.{◌≡◌, ◌-◌, ◌%◌, ◌^◌, ◌<◌}
use Rattle.follow.proofs.Round.{with-line}
use Rattle.follow.proofs.covered.Covered.with.Goals as goal

pub returns : goal.returns
returns c =
    let below : c.args.self < 2 ^ c.args.width = rw c.requires.ends c.requires.value in
    let begins : c.args.self % 2 ^ (c.args.width - c.args.line.k) ≡ 0 = rw c.requires.ends c.requires.begins in
    with-line c.self.inside.full c.self.inside.end c.args.self c.args.width c.args.line.k _ c.self.view_is c.requires.word c.requires.within below begins c.round_span.ensures
