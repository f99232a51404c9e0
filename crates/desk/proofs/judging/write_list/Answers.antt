use Rattle.std.proofs.Common.{ap, ap₂, subst, ◌∙◌, ◌++◌, List, ℕ}
use Rattle.std.specs.Io.KnownBytes.{Appends}
use Rattle.std.proofs.KnownBytes.{Appends-nil, Appends-trans}
use Rattle.model.specs.{ListBytes.lines_from, DeskText.line_text, DeskText.lines_text, Read.head_bytes, Walk.Line}
use Rattle.answers.specs.declared.marks.Facts.{Facts}
use Rattle.page.proofs.Listing.{lines-more}
use Rattle.desk.proofs.judging.write_list.Goals as goal

pub loop-number-init : goal.loop-number-init
unfolding lines_text lines_from
loop-number-init g c = Appends-nil _

pub loop-number-preserved : goal.loop-number-preserved
loop-number-preserved g c =
    let F = c.args.lines.now.facts.limits in
    let n = c.args.lines.now.facts.count in
    let before = lines_text F n (lines_from F c.args.lines.now.list.now c.loop-number.number head_bytes) in
    let written = c.as_bytes.ensures.value ∙ c.deref.ensures.0 ∙ c.text.ensures.bytes ∙ ap₂ (λ (f : Facts) (l : Line). line_text f.limits f.count l) c.line.ensures.facts c.line.ensures.line in
    subst (Appends (g.W.Write.contents c.args.writer.now) (g.W.Write.contents c.write_all.new.self))
    (ap (λ (t : List ℕ). before ++ t) written ∙ lines-more F n c.args.lines.now.list.now c.loop-number.number head_bytes)
    (Appends-trans _ (g.W.Write.contents c.loop-number.writer) _ before c.as_bytes.result.now c.loop-number.invariant (c.in_ok-write_all.ensures.bytes))
