-- What following lines answers.
use Rattle.std.specs.Prelude.{◌≡◌, ◌⊎◌, List, ℕ, ◌+◌, ◌-◌, ◌^◌, Result, Ok, Err}
use Rattle.model.specs.declared.Limits.{Limits}
use Rattle.model.specs.Limits.{version1, version2}
use Rattle.model.specs.declared.Refusal.{Refusal}
use Rattle.model.specs.Answer.{Answer, answered}
use Rattle.model.specs.Answers.{refusal, result_answer}
use Rattle.model.specs.Case.{Task}
use Rattle.model.specs.Walk.{Line, look_at}
use Rattle.model.specs.CaseList.{refuse_at, fault}
use Rattle.model.specs.Cover.{cover_end}
use Rattle.model.specs.Read.{head_bytes}
use Rattle.model.specs.ListBytes.{lines_from}

-- a line's refusal, or the end after it
abbrev pub followed : Result (Unit {0}) Refusal → ℕ → Answer ℕ
followed (Ok u) e = answered e
followed (Err r) e = refusal r

-- line i of a list, where the lines before it end at x
abbrev pub line_answer : Task → Line → ℕ → ℕ → Answer ℕ
line_answer T l i x = refuse_at (fault T.width (look_at T) T.facts l x) i (answered (x + 2 ^ (T.width - l.k)))

-- all of these lines
abbrev pub end_of_lines : Task → List Line → Answer ℕ
end_of_lines T ls = cover_end T.width (look_at T) T.facts ls 0 0

-- the refusal of a list's block, or its lines
abbrev pub lines_counted : Limits → List ℕ → Result ℕ Refusal → Answer (List Line)
lines_counted F list = result_answer (λ count. lines_from F list count head_bytes)

-- the numbers of one of the versions
abbrev pub OfAVersion : Limits → Type 0
OfAVersion F = (F ≡ version1) ⊎ (F ≡ version2)
