use Rattle.std.proofs.Common.{◌≡◌, rules, arith, ap, ap₂, ◌∙◌, ◌++◌, List, ℕ}
use Rattle.std.proofs.Output.{has_written_of_eq, has_written_append}
use Rattle.model.specs.{ListBytes.lines_from, DeskText.line_text, DeskText.lines_text, Read.head_bytes, Walk.Line}
use Rattle.answers.specs.declared.marks.Facts.{Facts}
use Rattle.page.proofs.Listing.{lines-more}
use Rattle.page.proofs.list.ListLinesDisplay.fmt.Goals as goal

pub loop-number-init : goal.loop-number-init
unfolding lines_text lines_from
loop-number-init g c = search rules

pub loop-number-preserved : goal.loop-number-preserved
loop-number-preserved g c p =
    let F = c.args.self.now.facts.limits in
    let n = c.args.self.now.facts.count in
    has_written_of_eq _ _ _ _ _
    (ap (λ (t : List ℕ). lines_text F n (lines_from F c.args.self.now.list.now c.loop-number.number head_bytes) ++ t)
    (ap₂ (λ (f : Facts) (l : Line). line_text f.limits f.count l) c.line.ensures.facts c.line.ensures.line) ∙
    lines-more F n c.args.self.now.list.now c.loop-number.number head_bytes)
    (has_written_append _ _ _ _ _ _ (c.loop-number.invariant p) (c.write.ensures.writes (c.loop-number.invariant p).plain (search rules)))

pub returns-clause-writes : goal.returns-clause-writes
returns-clause-writes g c p ok =
    let all : c.loop-number.number ≡ c.args.self.now.count = omega arith in
    rw all at (c.loop-number.invariant p)
