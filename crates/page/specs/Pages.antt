-- The desk program's page from the judge's answer, where the lines of a right plan stand in a list block.
use Rattle.std.specs.Prelude.{◌≡◌, cond, List, [], ◌++◌, ℕ, ◌+◌, ◌*◌, ◌≤◌, leb, length}
use Rattle.model.specs.declared.Limits.{Limits}
use Rattle.model.specs.Read.{head_bytes}
use Rattle.model.specs.Limits.{limits_of}
use Rattle.model.specs.Answer.{Answer, refused, answered}
use Rattle.model.specs.Walk.{Verdict, right, wrong, undecided}
use Rattle.model.specs.Answers.{judge_answer}
use Rattle.model.specs.ListBytes.{lines_from}
use Rattle.model.specs.Operations.{judge}
use Rattle.model.specs.DeskText.{lines_text, too_long, judged_line, desk_grant, desk_text}
use Rattle.page.specs.declared.first_line.FirstLine.{FirstLine}

-- what follows the first line, over n facts: only a right plan has lines, and not too many
abbrev pub following : Limits → ℕ → List ℕ → Answer (Verdict ℕ) → List ℕ
following F n list (refused number place) = []
following F n list (answered (right c a)) = cond (leb c F.lines) (lines_text F n (lines_from F list c head_bytes)) too_long
following F n list (answered (wrong s o a)) = []
following F n list (answered (undecided a)) = []

-- the whole page, over n facts
abbrev pub page_of : Limits → ℕ → List ℕ → Answer (Verdict ℕ) → List ℕ
page_of F n list answer = judged_line F n answer ++ following F n list answer

-- the page with this first line, and that list
abbrev pub text_of : FirstLine → List ℕ → List ℕ
text_of l list = page_of l.facts.limits l.facts.count list (judge_answer l.answer)

-- the page of the problem s and the plan t has this first line, whose answer is the judge's, and `list` has room for any list that is not too long
pub record PageOf (s t list : List ℕ) (l : FirstLine) : Type 0 where
  pub room : head_bytes + l.facts.limits.line * l.facts.limits.lines ≤ length list
  pub text : text_of l list ≡ desk_text (limits_of s) s t
  pub answer : judge_answer l.answer ≡ judge (limits_of s) s t desk_grant
