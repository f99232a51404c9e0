-- What a page and its parts display.
use Rattle.std.specs.Prelude.{cond, Option, None, Some, List, [], ℕ, leb}
use Rattle.model.specs.declared.Limits.{Limits}
use Rattle.model.specs.Read.{head_bytes}
use Rattle.model.specs.Answer.{Answer, refused, answered}
use Rattle.model.specs.Walk.{Verdict, right, wrong, undecided}
use Rattle.model.specs.ListBytes.{lines_from}
use Rattle.model.specs.DeskText.{lines_text, too_long}
use Rattle.page.specs.declared.page.Page.{Page}
use Rattle.page.specs.declared.page.Rest.{Rest}
use Rattle.page.specs.declared.page.Rest.TheVariants.{Nothing, TooLong, Lines}
use Rattle.page.specs.Pages.{text_of}

abbrev pub rest_text : Rest → List ℕ
rest_text Nothing = []
rest_text TooLong = too_long
rest_text (Lines l) = lines_text l.facts.limits l.facts.count (lines_from l.facts.limits l.list.now l.count head_bytes)

-- which of the three it is: nothing, that the list is too long, or so many lines
abbrev pub rest_kind : Rest → Option (Option ℕ)
rest_kind Nothing = None
rest_kind TooLong = Some None
rest_kind (Lines l) = Some (Some l.count)

-- which of them follows an answer: only a right plan has lines, and no more than a list may have
abbrev pub kind_after : Limits → Answer (Verdict ℕ) → Option (Option ℕ)
kind_after F (refused number place) = None
kind_after F (answered (right c a)) = Some (cond (leb c F.lines) (Some c) None)
kind_after F (answered (wrong s o a)) = None
kind_after F (answered (undecided a)) = None

abbrev pub page_text : Page → List ℕ
page_text p = text_of p.first p.list.now
