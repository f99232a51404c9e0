-- the lines so far
use Rattle.std.specs.Fmt.{HasWritten, IsPlainFormatter}
use Rattle.model.specs.{Read.head_bytes, ListBytes.lines_from, DeskText.lines_text}
use Rattle.page.proofs.list.ListLinesDisplay.fmt.Given as goal

abbrev pub invariant-loop-number : goal.invariant-loop-number
invariant-loop-number g l =
    IsPlainFormatter l.initial.f →
    HasWritten g.W.Write.write_str_gives l.initial.f
    (lines_text l.self.facts.limits l.self.facts.count (lines_from l.self.facts.limits l.self.list.now l.number head_bytes))
    l.f
