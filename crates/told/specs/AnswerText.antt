-- The line that answers a command, in names or numbers.
use Rattle.std.specs.Prelude.{List, [], ◌∷◌, ◌++◌, ℕ, codes, decimal, Result, Ok, Err}
use Rattle.model.specs.declared.Limits.{Limits}
use Rattle.model.specs.declared.Refusal.{Refusal}
use Rattle.model.specs.Faults.{fault_number}
use Rattle.model.specs.Answers.{outcome, verdict, search_end}
use Rattle.model.specs.Run.{Part, at_member, at_fact, Outcome, reached, missed, blocked}
use Rattle.model.specs.Walk.{Verdict, right, wrong, undecided}
use Rattle.model.specs.Search.{Search, first_right, none_right, undecided_at}
use Rattle.model.specs.DeskText.{sentence, words, right_line, undecided_line}
use Rattle.names.specs.Names.{Names}
use Rattle.names.specs.Texts.{fact_name, action_name}
use Rattle.answers.specs.Rows.{Row, fault_row}
use Rattle.answers.specs.declared.rows.Unit.{Unit as PlaceUnit}
use Rattle.answers.specs.declared.rows.Unit.TheVariants.{Nothing, Byte, Line, End}
use Rattle.told.specs.States.{state_text}
use Rattle.answers.specs.declared.answer.Answer.{Answer}
use Rattle.answers.specs.declared.answer.Answer.TheVariants.{Judged, Written, Followed, Ran, Rests, Searched}

-- as in "refused list 60 at 65535"
abbrev pub refusal_line : List ℕ → ℕ → ℕ → List ℕ
refusal_line subject number place = sentence (codes "refused" ∷ subject ∷ decimal number ∷ codes "at" ∷ decimal place ∷ [])

-- as in "line 1: its claim is not so (69)"
abbrev pub untrue_line : List ℕ → List ℕ → ℕ → List ℕ
untrue_line place words number = place ++ (codes ": " ++ (words ++ (codes " (" ++ (decimal number ++ (codes ")" ++ (10 ∷ []))))))

-- by what the place counts: that of a line, or of the end of the lines, is told in words, and all else by number
abbrev pub row_line : PlaceUnit → Row → ℕ → ℕ → List ℕ
row_line Nothing row number place = refusal_line row.subject number place
row_line Byte row number place = refusal_line row.subject number place
row_line Line row number place = untrue_line (codes "line " ++ decimal place) row.words number
row_line End row number place = untrue_line (codes "end") row.words number

abbrev pub refused_line : Refusal → List ℕ
refused_line r = let row = fault_row r.fault in row_line row.unit row (fault_number r.fault) r.place

module _ (N : Names) where
  -- as in "member 0" or "fact a"
  abbrev pub part_text : Part → List ℕ
  part_text (at_member m) = words (codes "member" ∷ decimal m ∷ [])
  part_text (at_fact f) = words (codes "fact" ∷ fact_name N f ∷ [])

  -- as in "at end", or "at step 0 member 0"
  abbrev pub where_text : Outcome → List ℕ
  where_text reached = codes "at end"
  where_text missed = codes "at end"
  where_text (blocked s) = words (codes "at" ∷ codes "step" ∷ decimal s.step ∷ part_text s.part ∷ [])

  -- as in "reached", or "blocked at step 0 fact a"
  abbrev pub outcome_line : Outcome → List ℕ
  outcome_line reached = sentence (codes "reached" ∷ [])
  outcome_line missed = sentence (codes "missed" ∷ [])
  outcome_line (blocked s) = sentence (codes "blocked" ∷ where_text (blocked s) ∷ [])

  -- the steps of a plan, each with a space before it
  unfoldable pub steps_text : List ℕ → List ℕ
  steps_text [] = []
  steps_text (b ∷ bs) = 32 ∷ (action_name N b ++ steps_text bs)

  -- as in "found a b visited 12", or "none visited 12"
  abbrev pub search_line : Search → List ℕ
  search_line (first_right p a) = codes "found" ++ (steps_text p ++ sentence ([] ∷ codes "visited" ∷ decimal a ∷ []))
  search_line (none_right a) = sentence (codes "none" ∷ codes "visited" ∷ decimal a ∷ [])
  search_line (undecided_at p a) = codes "undecided at" ++ (steps_text p ++ sentence ([] ∷ codes "visited" ∷ decimal a ∷ []))

module _ (N : Names) (F : Limits) (n : ℕ) where
  -- a verdict as at the desk, with the state and the fact by their names
  abbrev pub verdict_line : Verdict ℕ → List ℕ
  verdict_line (right lines a) = right_line lines a
  verdict_line (wrong s o a) = sentence (codes "wrong" ∷ state_text N F n s ∷ where_text N o ∷ codes "visited" ∷ decimal a ∷ [])
  verdict_line (undecided a) = undecided_line a

  -- answer lines
  abbrev pub answer_line : Answer → List ℕ
  answer_line (Judged v) = verdict_line (verdict v)
  answer_line (Written bytes) = sentence (codes "wrote" ∷ decimal bytes ∷ codes "bytes" ∷ [])
  answer_line (Followed lines) = sentence (codes "passes," ∷ decimal lines ∷ codes "lines" ∷ [])
  answer_line (Ran o) = outcome_line N (outcome o)
  answer_line (Rests set) = sentence (codes "rests" ∷ codes "on" ∷ state_text N F n set ∷ [])
  answer_line (Searched s) = search_line N (search_end s)

  -- what a command answers: a line of a list that does not hold is told in words, as in "line 1: its claim is not so (69)"
  abbrev pub told : Result Answer Refusal → List ℕ
  told (Ok a) = answer_line a
  told (Err r) = refused_line r
