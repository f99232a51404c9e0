use Rattle.std.proofs.Common.{take, ◌∙◌}
use Rattle.std.proofs.{Output.has_written_of_eq, lemmas.Result.MatchResult-at_ok}
use Rattle.std.specs.Str.{IsUtf8}
use Rattle.answers.proofs.Marking.{marks-text, passes}
use Rattle.answers.proofs.marks.MarksDisplay.fmt.Goals as goal

pub unwrap-text-requires : goal.unwrap-text-requires
unwrap-text-requires g c =
    let u : IsUtf8 (take c.args.self.now.facts.count c.bytes-bytes.result) = rw c.bytes-bytes.ensures (marks-text _ _ _ _) in
    passes _ _ _ u c.from_utf8.ensures.cases

pub returns-clause-writes : goal.returns-clause-writes
returns-clause-writes g c p ok =
    has_written_of_eq _ _ _ _ _
    ((MatchResult-at_ok _ _ _ c.unwrap-text.ensures c.from_utf8.ensures.cases).0 ∙ c.bytes-bytes.ensures)
    (c.write_str.ensures.writes p ok)
