use Rattle.std.proofs.Common.{take}
use Rattle.std.specs.Str.{IsUtf8}
use Rattle.answers.proofs.Marking.{marks-text, passes}
use Rattle.page.proofs.marks.push_marks.Goals as goal

pub unwrap-shown-requires : goal.unwrap-shown-requires
unwrap-shown-requires c =
    let u : IsUtf8 (take c.args.of.now.facts.count c.bytes-bytes.result) = rw c.bytes-bytes.ensures (marks-text _ _ _ _) in
    passes _ _ _ u c.from_utf8.ensures.cases
