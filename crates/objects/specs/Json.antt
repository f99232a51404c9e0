-- Each answer as one JSON object on one line. Its keys come in order.
use Rattle.std.specs.Prelude.{List, [], ◌∷◌, ℕ, codes, Result, Ok, Err}
use Rattle.model.specs.declared.Refusal.{Refusal}
use Rattle.model.specs.Faults.{fault_number}
use Rattle.model.specs.Answers.{outcome, verdict, search_end}
use Rattle.model.specs.Run.{Part, at_member, at_fact, Outcome, reached, missed, blocked}
use Rattle.model.specs.Walk.{Verdict, right, wrong, undecided}
use Rattle.model.specs.Search.{Search, first_right, none_right, undecided_at}
use Rattle.answers.specs.declared.answer.Answer.{Answer}
use Rattle.answers.specs.declared.answer.Answer.TheVariants.{Judged, Written, Followed, Ran, Rests, Searched}
use Rattle.objects.specs.Members.{Member, number, word, steps, object_text}

-- the members of an object that answers so, and has these others
abbrev pub answering : List ℕ → List Member → List Member
answering answer others = (codes "answer", word answer) ∷ others

abbrev pub visiting : ℕ → List Member
visiting a = (codes "visits", number a) ∷ []

-- as in `{"answer":"refused","number":12,"place":0}`
abbrev pub refused_members : ℕ → ℕ → List Member
refused_members n place = answering (codes "refused") ((codes "number", number n) ∷ (codes "place", number place) ∷ [])

-- what keeps an action from being applicable: which kind of part, and its number
abbrev pub part_kind : Part → List ℕ
part_kind (at_member m) = codes "member"
part_kind (at_fact f) = codes "fact"

abbrev pub part_number : Part → ℕ
part_number (at_member m) = m
part_number (at_fact f) = f

-- as in `{"answer":"blocked","number":0,"part":"member","step":0}`
abbrev pub outcome_members : Outcome → List Member
outcome_members reached = answering (codes "reached") []
outcome_members missed = answering (codes "missed") []
outcome_members (blocked s) =
    answering (codes "blocked") ((codes "number", number (part_number s.part)) ∷ (codes "part", word (part_kind s.part)) ∷ (codes "step", number s.step) ∷ [])

-- as in `{"answer":"wrong","outcome":"missed","state":2,"visits":5}`
abbrev pub ended_members : List ℕ → ℕ → ℕ → List Member
ended_members end state visits = answering (codes "wrong") ((codes "outcome", word end) ∷ (codes "state", number state) ∷ visiting visits)

-- as in `{"answer":"wrong","number":0,"outcome":"blocked","part":"member","state":2,"step":0,"visits":5}`
abbrev pub wrong_members : ℕ → Outcome → ℕ → List Member
wrong_members state reached visits = ended_members (codes "reached") state visits
wrong_members state missed visits = ended_members (codes "missed") state visits
wrong_members state (blocked s) visits =
    answering (codes "wrong")
    ((codes "number", number (part_number s.part)) ∷
    (codes "outcome", word (codes "blocked")) ∷
    (codes "part", word (part_kind s.part)) ∷
    (codes "state", number state) ∷ (codes "step", number s.step) ∷ visiting visits)

-- as in `{"answer":"right","lines":3,"visits":5}`
abbrev pub verdict_members : Verdict ℕ → List Member
verdict_members (right lines a) = answering (codes "right") ((codes "lines", number lines) ∷ visiting a)
verdict_members (wrong s o a) = wrong_members s o a
verdict_members (undecided a) = answering (codes "undecided") (visiting a)

-- as in `{"answer":"found","steps":[0,2],"visits":17}`
abbrev pub planned_members : List ℕ → List ℕ → ℕ → List Member
planned_members answer p a = answering answer ((codes "steps", steps p) ∷ visiting a)

abbrev pub search_members : Search → List Member
search_members (first_right p a) = planned_members (codes "found") p a
search_members (none_right a) = answering (codes "none") (visiting a)
search_members (undecided_at p a) = planned_members (codes "undecided") p a

-- answers as JSON
abbrev pub answer_members : Answer → List Member
answer_members (Judged v) = verdict_members (verdict v)
answer_members (Written bytes) = answering (codes "written") ((codes "length", number bytes) ∷ [])
answer_members (Followed lines) = answering (codes "passes") ((codes "lines", number lines) ∷ [])
answer_members (Ran o) = outcome_members (outcome o)
answer_members (Rests set) = answering (codes "rests") ((codes "set", number set) ∷ [])
answer_members (Searched s) = search_members (search_end s)

abbrev pub told_members : Result Answer Refusal → List Member
told_members (Ok a) = answer_members a
told_members (Err r) = refused_members (fault_number r.fault) r.place

abbrev pub json_text : Result Answer Refusal → List ℕ
json_text r = object_text (told_members r)

-- as in `{"answer":"made","length":57}`
abbrev pub made_members : ℕ → List Member
made_members length = answering (codes "made") ((codes "length", number length) ∷ [])

abbrev pub made_json : ℕ → List ℕ
made_json length = object_text (made_members length)
