-- the lines so far
use Rattle.std.specs.Io.KnownBytes.{Appends}
use Rattle.model.specs.{Read.head_bytes, ListBytes.lines_from, DeskText.lines_text}
use Rattle.desk.proofs.judging.write_list.Given as goal

abbrev pub invariant-loop-number : goal.invariant-loop-number
invariant-loop-number g l =
    Appends (g.W.Write.contents l.initial.writer) (g.W.Write.contents l.writer)
    (lines_text l.lines.facts.limits l.lines.facts.count (lines_from l.lines.facts.limits l.lines.list.now l.number head_bytes))
