-- The eight words of each answer of the C interface: word 0 tells what kind of answer it is, and words that an answer does not use are 0
use Rattle.std.specs.Prelude.{List, [], ◌∷◌, ℕ, length, get_or}
use Rattle.model.specs.Answer.{Answer, refused, answered}
use Rattle.model.specs.Run.{Part, at_member, at_fact, Outcome, reached, missed, blocked}
use Rattle.model.specs.Walk.{Verdict, right, wrong, undecided}
use Rattle.model.specs.Search.{Search, first_right, none_right, undecided_at}
use Rattle.model.specs.declared.Counts.{Counts}
use Rattle.model.specs.declared.Lengths.{Lengths}

abbrev words : ℕ → ℕ → ℕ → ℕ → ℕ → List ℕ
words tag a b c d = tag ∷ a ∷ b ∷ c ∷ d ∷ 0 ∷ 0 ∷ 0 ∷ []

-- any, refused: number, place
abbrev pub refusal_words : ℕ → ℕ → List ℕ
refusal_words n q = words 0 n q 0 0

-- read_problem: facts, actions
abbrev pub problem_words : Answer Counts → List ℕ
problem_words (refused n q) = refusal_words n q
problem_words (answered c) = words 1 c.facts c.actions 0 0

-- read_plan: steps; write_list: length written; follow_list: lines; relevant_facts and
-- relevant_facts_sparse: the set of start facts as a state number
abbrev pub count_words : Answer ℕ → List ℕ
count_words (refused n q) = refusal_words n q
count_words (answered n) = words 1 n 0 0 0

-- what blocks a run: 0 for a member of the precondition, 1 for a fact; and its number
abbrev pub part_word : Part → ℕ
part_word (at_member m) = 0
part_word (at_fact f) = 1

abbrev pub part_number : Part → ℕ
part_number (at_member m) = m
part_number (at_fact f) = f

-- run: reached, missed, or blocked with its step, part and number
abbrev pub end_words : Outcome → List ℕ
end_words reached = words 1 0 0 0 0
end_words missed = words 2 0 0 0 0
end_words (blocked s) = words 3 s.step (part_word s.part) (part_number s.part) 0

abbrev pub run_words : Answer Outcome → List ℕ
run_words (refused n q) = refusal_words n q
run_words (answered o) = end_words o

-- judge, wrong: visits, state, outcome (run's tag), step, part and number
abbrev pub wrong_words : ℕ → ℕ → Outcome → List ℕ
wrong_words visits state reached = words 2 visits state 1 0
wrong_words visits state missed = words 2 visits state 2 0
wrong_words visits state (blocked s) = 2 ∷ visits ∷ state ∷ 3 ∷ s.step ∷ part_word s.part ∷ part_number s.part ∷ 0 ∷ []

-- judge: right with visits and lines, wrong, undecided with visits
abbrev pub verdict_words : Verdict ℕ → List ℕ
verdict_words (right lines visits) = words 1 visits lines 0 0
verdict_words (wrong state o visits) = wrong_words visits state o
verdict_words (undecided visits) = words 3 visits 0 0 0

abbrev pub judge_words : Answer (Verdict ℕ) → List ℕ
judge_words (refused n q) = refusal_words n q
judge_words (answered v) = verdict_words v

-- search_plans: all visits used (the grant, where undecided), the length of the plan, and its steps in the words 3 to 6
abbrev pub plan_words : ℕ → ℕ → List ℕ → List ℕ
plan_words tag visits p = tag ∷ visits ∷ length p ∷ get_or p 0 0 ∷ get_or p 1 0 ∷ get_or p 2 0 ∷ get_or p 3 0 ∷ 0 ∷ []

-- 1 for a plan found, 2 where none is right, with no length and no step, and 3 for undecided
abbrev pub searched_words : Search → List ℕ
searched_words (first_right p visits) = plan_words 1 visits p
searched_words (none_right visits) = words 2 visits 0 0 0
searched_words (undecided_at p visits) = plan_words 3 visits p

abbrev pub search_words : Answer Search → List ℕ
search_words (refused n q) = refusal_words n q
search_words (answered r) = searched_words r

-- merge: the length of the block, and of the table
abbrev pub merge_words : Answer Lengths → List ℕ
merge_words (refused n q) = refusal_words n q
merge_words (answered l) = words 1 l.block l.table 0 0
