-- What survives when the start of the trial problem is made narrower, and what does not: rows that show why the theorems say no more.
use Rattle.std.specs.Prelude.{List, [], ◌∷◌, ◌++◌, ℕ, replicate}
use Rattle.model.specs.Answer.{answered, refused}
use Rattle.model.specs.Run.{missed}
use Rattle.model.specs.Walk.{right, wrong, undecided}
use Rattle.model.specs.Text.{hex}
use Rattle.model.specs.Trials.{Hold, judge_with, follow-list, relevant-facts, search-plans, number, verdict, Row, ◌⇒◌, wrote, finds, stops_at}

-- what follows the initial formula of the trial problem: its goal and its actions
abbrev rest_of_p : List ℕ
rest_of_p = hex "0001 02 0002 80 00 01 02 0001 00 0002 80 00 01 02 0001 01"

-- the trial problem; with one start state of its three, 010; with none; and with all three, by a formula that reads unknown in the case 00?
abbrev all_starts : List ℕ
all_starts = hex "00000020 03 02 0007 80 02 81 02 00 01 42" ++ rest_of_p

abbrev one_start : List ℕ
one_start = hex "0000001e 03 02 0005 80 03 40 01 42" ++ rest_of_p

abbrev none_left : List ℕ
none_left = hex "0000001b 03 02 0002 81 00" ++ rest_of_p

abbrev reworded : List ℕ
reworded = hex "00000026 03 02 000d 80 03 81 03 00 01 02 81 03 00 01 42 42" ++ rest_of_p

-- the plans 1, and 0, 1; and the lists that are written for the trial problem
abbrev step_1 : List ℕ
step_1 = hex "01 00000001 01"

abbrev both_steps : List ℕ
both_steps = hex "01 00000002 00 01"

abbrev its_list : List ℕ
its_list = hex "01 00000018 00 02 000000000000 01 02 400000000000 01 01 800000000000"

abbrev its_list2 : List ℕ
its_list2 = hex "02 0000001e 00 02 0000000000000000 01 02 4000000000000000 01 01 8000000000000000"

-- Plan 0, 1 is called right with 5 visits. With one start state or none the same grant suffices; in other words it does not. A plan that was wrong may
-- be right. The list of the trial problem passes for none of the others: a case that carried is empty now, and one that was seen to be empty is not
-- seen to be. A search finds an earlier plan, or the same one with more visits. A state that is a start state no longer is run as before.
abbrev pub survivals : List Row
survivals =
    (judge_with (1 ∷ all_starts) both_steps 5 ⇒ verdict (answered (right 3 5)))
    ∷ (judge_with (1 ∷ one_start) both_steps 5 ⇒ verdict (answered (right 3 5)))
    ∷ (judge_with (1 ∷ none_left) both_steps 5 ⇒ verdict (answered (right 1 1)))
    ∷ (judge_with (1 ∷ reworded) both_steps 5 ⇒ verdict (answered (undecided 5)))
    ∷ (judge_with (1 ∷ reworded) both_steps 6 ⇒ verdict (answered (undecided 6)))
    ∷ (judge_with (1 ∷ reworded) both_steps 7 ⇒ verdict (answered (right 4 7)))
    ∷ (judge_with (1 ∷ all_starts) step_1 7 ⇒ verdict (answered (wrong 0x800000000000 missed 7)))
    ∷ (judge_with (1 ∷ one_start) step_1 5 ⇒ verdict (answered (right 3 5)))
    ∷ (follow-list (1 ∷ one_start) both_steps its_list ⇒ number (refused 69 2))
    ∷ (follow-list (1 ∷ none_left) both_steps its_list ⇒ number (refused 69 1))
    ∷ (follow-list (1 ∷ reworded) both_steps its_list ⇒ number (refused 69 0))
    ∷ (search-plans (1 ∷ one_start) 2 1000000 ⇒ finds (1 ∷ []) 15)
    ∷ (search-plans (1 ∷ reworded) 2 1000000 ⇒ finds (0 ∷ 1 ∷ []) 37)
    ∷ (search-plans (1 ∷ reworded) 2 36 ⇒ stops_at (0 ∷ 1 ∷ []) 36)
    ∷ (relevant-facts (1 ∷ one_start) both_steps 0x800000000000 (replicate 9 7) ⇒ wrote 0xc00000000000 (hex "010000 010001 010001"))
    ∷ (judge_with (2 ∷ one_start) both_steps 5 ⇒ verdict (answered (right 3 5)))
    ∷ (judge_with (2 ∷ reworded) both_steps 6 ⇒ verdict (answered (undecided 6)))
    ∷ (judge_with (2 ∷ reworded) both_steps 7 ⇒ verdict (answered (right 4 7)))
    ∷ (follow-list (2 ∷ one_start) both_steps its_list2 ⇒ number (refused 69 2))
    ∷ (follow-list (2 ∷ reworded) both_steps its_list2 ⇒ number (refused 69 0))
    ∷ []

pub record SurvivalsHold : Type 0 where
  pub survivals : Hold survivals
