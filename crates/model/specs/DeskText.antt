-- The desk program's text, as bytes: first what each part of an answer is shown as, then each line, and last the whole page.
use Rattle.std.specs.Prelude.{cond, List, [], ◌∷◌, ◌++◌, ℕ, zero, suc, length, ltb, leb, codes, decimal}
use Rattle.model.specs.declared.Limits.{Limits}
use Rattle.model.specs.Answer.{Answer, refused, answered}
use Rattle.model.specs.Action.{tabulate}
use Rattle.model.specs.Run.{Part, at_member, at_fact, Outcome, reached, missed, blocked}
use Rattle.model.specs.Case.{bit, Task}
use Rattle.model.specs.Walk.{Line, Verdict, right, wrong, undecided, judged}
use Rattle.model.specs.Operations.{line_count, read_task}

-- ---- words and values; numbers are decimal, with the highest digit first, as the library's `decimal` writes them

-- words, or texts of several, with a space between them
abbrev pub words : List (List ℕ) → List ℕ
words [] = []
words (w ∷ []) = w
words (w ∷ v ∷ ws) = w ++ (32 ∷ words (v ∷ ws))

-- words, and a line feed after them
abbrev pub sentence : List (List ℕ) → List ℕ
sentence [] = 10 ∷ []
sentence (w ∷ []) = w ++ (10 ∷ [])
sentence (w ∷ v ∷ ws) = w ++ (32 ∷ sentence (v ∷ ws))

-- fact i's mark in a number w bits wide: its bit, or a question mark from fact k on
abbrev pub mark : ℕ → ℕ → ℕ → ℕ → ℕ
mark w k v i = cond (ltb i k) (cond (bit w v i) 49 48) 63

-- a mark for each of n facts
unfoldable pub marks : ℕ → ℕ → ℕ → ℕ → List ℕ
marks w n k v = tabulate n (mark w k v)

-- ---- the first line

-- a refusal: which block is at fault, the number and the place. The numbers of a plan's begin at 30.
abbrev pub block_text : ℕ → List ℕ
block_text number = cond (ltb number 30) (codes "problem") (codes "plan")

abbrev pub refusal_line : ℕ → ℕ → List ℕ
refusal_line number place = sentence (codes "refused" ∷ block_text number ∷ decimal number ∷ codes "at" ∷ decimal place ∷ [])

-- as in "right lines 3 visited 5"
abbrev pub right_line : ℕ → ℕ → List ℕ
right_line lines a = sentence (codes "right" ∷ codes "lines" ∷ decimal lines ∷ codes "visited" ∷ decimal a ∷ [])

-- as in "member 0" or "fact 2"
abbrev pub part_text : Part → List ℕ
part_text (at_member m) = words (codes "member" ∷ decimal m ∷ [])
part_text (at_fact f) = words (codes "fact" ∷ decimal f ∷ [])

-- as in "at end", or "at step 0 member 0" where the run was blocked
abbrev pub where_text : Outcome → List ℕ
where_text reached = words (codes "at" ∷ codes "end" ∷ [])
where_text missed = words (codes "at" ∷ codes "end" ∷ [])
where_text (blocked s) = words (codes "at" ∷ codes "step" ∷ decimal s.step ∷ part_text s.part ∷ [])

-- as in "wrong 010 at end visited 5": the state has a mark for each of n facts
abbrev pub wrong_line : Limits → ℕ → ℕ → Outcome → ℕ → List ℕ
wrong_line F n s o a = sentence (codes "wrong" ∷ marks F.width n n s ∷ where_text o ∷ codes "visited" ∷ decimal a ∷ [])

-- as in "undecided visited 1000000"
abbrev pub undecided_line : ℕ → List ℕ
undecided_line a = sentence (codes "undecided" ∷ codes "visited" ∷ decimal a ∷ [])

-- a verdict, over n facts
abbrev pub verdict_line : Limits → ℕ → Verdict ℕ → List ℕ
verdict_line F n (right lines a) = right_line lines a
verdict_line F n (wrong s o a) = wrong_line F n s o a
verdict_line F n (undecided a) = undecided_line a

-- desk text: the refusal, or the verdict over n facts
abbrev pub judged_line : Limits → ℕ → Answer (Verdict ℕ) → List ℕ
judged_line F n (refused number place) = refusal_line number place
judged_line F n (answered v) = verdict_line F n v

-- ---- the lines after it

-- what a line claims: kind 0, that the case has no start state; kind 1, that it carries
abbrev pub kind_text : ℕ → List ℕ
kind_text zero = codes "no-start"
kind_text (suc d) = codes "carries"

abbrev pub too_long : List ℕ
too_long = sentence (codes "list" ∷ codes "too" ∷ codes "long" ∷ [])

module _ (F : Limits) (n : ℕ) where
  -- a line of the list: its claim, and a mark for each fact
  abbrev pub line_text : Line → List ℕ
  line_text l = sentence (kind_text l.kind ∷ marks F.width n l.k l.value ∷ [])

  unfoldable pub lines_text : List Line → List ℕ
  lines_text [] = []
  lines_text (l ∷ ls) = line_text l ++ lines_text ls

  -- list too long: the lines, or a word that they are more than a list may have
  unfoldable pub list_text : List Line → List ℕ
  list_text ls = cond (leb (length ls) F.lines) (lines_text ls) too_long

  -- what follows the verdict: only a right plan has lines
  unfoldable pub verdict_rest : Verdict (List Line) → List ℕ
  verdict_rest (right ls a) = list_text ls
  verdict_rest (wrong s o a) = []
  verdict_rest (undecided a) = []

-- ---- the whole text

-- the visits that the program grants
abbrev pub desk_grant : ℕ
desk_grant = 1000000

module _ (F : Limits) where
  -- of a problem and a plan that were read, or refused: the first line, and those after it
  unfoldable pub answer_line : Answer Task → List ℕ
  answer_line (refused number place) = refusal_line number place
  answer_line (answered T) = verdict_line F T.facts (line_count (judged T desk_grant))

  unfoldable pub answer_rest : Answer Task → List ℕ
  answer_rest (refused number place) = []
  answer_rest (answered T) = verdict_rest F T.facts (judged T desk_grant)

  unfoldable pub first_line : List ℕ → List ℕ → List ℕ
  first_line problem plan = answer_line (read_task F problem plan)

  unfoldable pub later_lines : List ℕ → List ℕ → List ℕ
  later_lines problem plan = answer_rest (read_task F problem plan)

  -- desk program: what the program writes for the bytes of its two files. A file that cannot be read, or was not named, has no bytes.
  unfoldable pub desk_text : List ℕ → List ℕ → List ℕ
  desk_text problem plan = first_line problem plan ++ later_lines problem plan
