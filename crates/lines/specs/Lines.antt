-- What a line shows, and what checking its form answers.
use Rattle.std.specs.Prelude.{not, ℕ, zero, suc, ◌-◌, ◌%◌, ◌^◌, eqb, ltb, Result}
use Rattle.model.specs.Answer.{Answer, refused, answered}
use Rattle.model.specs.Answers.{result_answer}
use Rattle.model.specs.Marks.{kind_of}
use Rattle.model.specs.Walk as model
use Rattle.model.specs.CaseList.{first}
use Rattle.model.specs.declared.Refusal.{Refusal}
use Rattle.lines.specs.declared.line.Line.{Line}
use Rattle.lines.specs.declared.raw.RawLine.{RawLine}

abbrev pub raw_line : RawLine → model.Line
raw_line l = record { kind = l.kind; k = l.k; value = l.value }

abbrev pub line_of : Line → model.Line
line_of l = model.line (kind_of l.kind) l.k l.value

-- what a check answers
abbrev pub line_read : Result Line Refusal → Answer model.Line
line_read = result_answer line_of

-- the first of 65 to 67 that fits a line over n facts, w bits wide, and 0 for none: the fault that neither the line before nor a look
-- decides
unfoldable pub form_fault : ℕ → ℕ → model.Line → ℕ
form_fault w n l =
    first (ltb 1 l.kind) 65
    (first (ltb n l.k) 66
    (first (not (eqb (l.value % 2 ^ (w - l.k)) 0)) 67 0))

-- line i, with that fault of its form
abbrev pub with_fault : ℕ → ℕ → model.Line → Answer model.Line
with_fault zero i l = answered l
with_fault (suc f) i l = refused (suc f) i

-- line i, over n facts and w bits wide: its refusal, whose place is the line's number, or the line
abbrev pub checked : ℕ → ℕ → ℕ → model.Line → Answer model.Line
checked w n i l = with_fault (form_fault w n l) i l
