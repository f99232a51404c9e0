-- Examples that are proved on their bytes: a call and what it gives, among them each refusal at its edge and inside it. What no row can say, for
-- every plan or for walks of a million visits, is a statement beside the tables.
use Rattle.std.specs.Prelude.{◌≡◌, List, [], ◌∷◌, ◌++◌, ℕ, zero, suc, ◌+◌, ◌≤◌, ◌<◌, length, drop, replicate, map, codes}
use Rattle.std.specs.Fmt.{digits}
use Rattle.model.specs.declared.Limits.{Limits}
use Rattle.model.specs.Limits.{version1, version2, limits_of}
use Rattle.model.specs.Formula.{eval}
use Rattle.model.specs.Action.{condition_in, every, exclusive, applicable, next, step}
use Rattle.model.specs.Run.{first_false, unmet, lowest_false, at_member, at_fact, part_of, Outcome, reached, missed, blocked, goes_on, run}
use Rattle.model.specs.Case.{bit, state_of, case_of, Task, run_of}
use Rattle.model.specs.Walk.{visits, Verdict, right, wrong, undecided, walk_from, walk, look_at, walked, found, judged}
use Rattle.model.specs.Answer as Answer
use Rattle.model.specs.Answer.{Answer, refused, answered}
use Rattle.model.specs.CaseList.{first, refuse_at, ends, fault, follow}
use Rattle.model.specs.Cover.{cover_end}
use Rattle.model.specs.Relevance.{names, some, has_entry, matters_before, relevant, states, number_of, rows, relevant_to, run_rows, sparse_rows}
use Rattle.model.specs.Search.{Search, first_right, none_right, undecided_at, each_step, plans_of, plans_from, plans_up_to, plan_count, search}
use Rattle.model.specs.Read.{and_then, ◌>>=◌, ◌>>◌, done, position, require, answer_of, big_endian_from, bytes_of, block, byte, counted, of_version, header, count}
use Rattle.model.specs.FormulaBytes.{formula_bytes, encode_formula, is_literal, literal_of, group_head, head_from, head, members, whole, item, stated, formula}
use Rattle.model.specs.ProblemBytes.{effect, effects, effect_list, action, actions, ending, parts, body, problem, problem_of, steps, plan, plan_of, action_at, effects_bytes, action_bytes, actions_bytes, encode_problem}
use Rattle.model.specs.Merging.{Merge, moved, depth, is_over, sized, roomy, merged_for, laid_out, merge}
use Rattle.model.specs.ListBytes.{line_at, lines_from, of_the_problem, case_list, list_of, line_bytes, lines_bytes, encode_list}
use Rattle.model.specs.Text.{hex}
use Rattle.model.specs.DeskText.{desk_grant, marks, verdict_line, lines_text, list_text, verdict_rest, answer_line, answer_rest, first_line, later_lines, desk_text}
use Rattle.model.specs.declared.Counts.{Counts}
use Rattle.model.specs.Operations.{Written, is_state_number, line_count, run_read, judge_read, reached_read, relevant_read, list_bytes, lines_for, lines_read, written, write_read, follow_read, cover_read, read_problem, read_plan, task_of, read_task, run_state, judge, write_list, follow_list, cover_after, relevant_facts, relevant_facts_sparse, search_plans}

pub data Call : Type 0 where
  read-problem : List ℕ → Call
  read-plan : List ℕ → List ℕ → Call
  run-state : List ℕ → List ℕ → ℕ → Call
  judge_with : List ℕ → List ℕ → ℕ → Call
  write-list : Limits → List ℕ → List ℕ → ℕ → List ℕ → Call
  follow-list : List ℕ → List ℕ → List ℕ → Call
  cover-after : List ℕ → List ℕ → List ℕ → ℕ → Call
  relevant-facts : List ℕ → List ℕ → ℕ → List ℕ → Call
  relevant-facts-sparse : List ℕ → List ℕ → ℕ → List ℕ → Call
  search-plans : List ℕ → ℕ → ℕ → Call
  merge-halls : List ℕ → List ℕ → List ℕ → List ℕ → Call
  desk : Limits → List ℕ → List ℕ → Call

pub data Reply : Type 0 where
  counts : Answer Counts → Reply
  number : Answer ℕ → Reply
  outcome : Answer Outcome → Reply
  verdict : Answer (Verdict ℕ) → Reply
  writes : Written → Reply
  searched : Answer Search → Reply
  merges : Merge → Reply
  text : List ℕ → Reply

-- what the definitions give; a proof that unfolds this computes with all of them
unfoldable pub reply : Call → Reply
unfolding eval condition_in every exclusive applicable next step first_false unmet lowest_false part_of goes_on run bit state_of case_of run_of walk_from walk look_at walked judged Answer.◌>>=◌ first refuse_at ends fault follow cover_end and_then ◌>>=◌ ◌>>◌ done position require answer_of big_endian_from bytes_of block byte counted of_version header count is_literal literal_of group_head head_from head members whole item stated formula effect effects effect_list action actions ending parts body problem problem_of steps plan plan_of action_at line_at lines_from of_the_problem case_list list_of line_bytes lines_bytes encode_list is_state_number read_problem read_plan task_of read_task run_read judge_read list_bytes lines_for written lines_read write_read follow_read cover_read names some has_entry matters_before relevant states number_of rows relevant_to run_rows sparse_rows reached_read relevant_read each_step plans_of plans_from plans_up_to plan_count search search_plans formula_bytes encode_formula effects_bytes action_bytes actions_bytes encode_problem moved depth is_over sized roomy merged_for laid_out merge hex digits marks lines_text list_text verdict_rest answer_line answer_rest first_line later_lines desk_text
reply (read-problem p) = counts (read_problem (limits_of p) p)
reply (read-plan p q) = number (read_plan (limits_of p) p q)
reply (run-state p q s) = outcome (run_state (limits_of p) p q s)
reply (judge_with p q g) = verdict (judge (limits_of p) p q g)
reply (write-list F p q g out) = writes (write_list F p q g out)
reply (follow-list p q l) = number (follow_list (limits_of p) p q l)
reply (cover-after p q l m) = number (cover_after (limits_of p) p q l m)
reply (relevant-facts p q s work) = writes (relevant_facts (limits_of p) p q s work)
reply (relevant-facts-sparse p q s work) = writes (relevant_facts_sparse (limits_of p) p q s work)
reply (search-plans p l g) = searched (search_plans (limits_of p) p l g)
reply (merge-halls p q out table) = merges (merge p q out table)
reply (desk F p q) = text (desk_text F p q)

pub record Row : Type 0 where
  pub call : Call
  pub gives : Reply

infix 10 ◌⇒◌
abbrev pub ◌⇒◌ : Call → Reply → Row
c ⇒ r = record { call = c; gives = r }

-- the trial problem
abbrev P : List ℕ
P =
    hex
    "01 00000020 03 02 0007 80 02 81 02 00 01 42 0001 02 0002 80 00 01 02 0001 00 0002 80 00 01 02 0001 01"

-- it with fact 0 as the precondition of action 0; with a goal that is always true; and with no start state
abbrev P_guarded : List ℕ
P_guarded =
    hex
    "01 0000001f 03 02 0007 80 02 81 02 00 01 42 0001 02 0001 00 01 02 0001 00 0002 80 00 01 02 0001 01"

abbrev P_goal : List ℕ
P_goal =
    hex
    "01 00000021 03 02 0007 80 02 81 02 00 01 42 0002 80 00 0002 80 00 01 02 0001 00 0002 80 00 01 02 0001 01"

abbrev pub P_no_start : List ℕ
P_no_start =
    hex
    "01 0000001b 03 02 0002 81 00 0001 02 0002 80 00 01 02 0001 00 0002 80 00 01 02 0001 01"

-- plans 0, 1; 0 alone; and the empty one
abbrev both_steps : List ℕ
both_steps = hex "01 00000002 00 01"

abbrev pub step-0 : List ℕ
step-0 = hex "01 00000001 00"

abbrev pub no_step : List ℕ
no_step = hex "01 00000000"

-- its list; and lists like it: with the last line in two halves, without it, with the last two exchanged, and with a first line that claims kind 1
abbrev the_list : List ℕ
the_list = hex "01 00000018 00 02 000000000000 01 02 400000000000 01 01 800000000000"

abbrev split_list : List ℕ
split_list =
    hex "01 00000020 00 02 000000000000 01 02 400000000000 01 02 800000000000 01 02 c00000000000"

abbrev short_list : List ℕ
short_list = hex "01 00000010 00 02 000000000000 01 02 400000000000"

abbrev swapped_list : List ℕ
swapped_list = hex "01 00000018 00 02 000000000000 01 01 800000000000 01 02 400000000000"

abbrev other_kind : List ℕ
other_kind = hex "01 00000018 01 02 000000000000 01 02 400000000000 01 01 800000000000"

abbrev pub grant : ℕ
grant = desk_grant

abbrev pub wrote : ℕ → List ℕ → Reply
wrote n bytes = writes (record { answer = answered n; buffer = bytes })

abbrev kept : ℕ → ℕ → List ℕ → Reply
kept n q out = writes (record { answer = refused n q; buffer = out })

-- verdicts and lists of the trial problem
abbrev pub starred : List Row
starred =
    (judge_with P both_steps grant ⇒ verdict (answered (right 3 5)))
    ∷ (write-list version1 P both_steps grant (replicate 30 7) ⇒ wrote 29 (the_list ++ (7 ∷ [])))
    ∷ (follow-list P both_steps the_list ⇒ number (answered 3))
    ∷ (judge_with P step-0 grant ⇒ verdict (answered (wrong 0x400000000000 missed 5)))
    ∷ (judge_with P no_step grant ⇒ verdict (answered (wrong 0x400000000000 missed 5)))
    ∷ (judge_with P both_steps 4 ⇒ verdict (answered (undecided 4)))
    ∷ (judge_with P both_steps 0 ⇒ verdict (answered (undecided 0)))
    ∷ (judge_with P_guarded both_steps grant ⇒ verdict (answered (wrong 0x400000000000 (blocked (record { step = 0; part = at_member 0 })) 5)))
    ∷ (judge_with P_goal no_step grant ⇒ verdict (answered (right 1 1)))
    ∷ (judge_with P_no_start both_steps grant ⇒ verdict (answered (right 1 1)))
    ∷ (write-list version1 P_no_start both_steps grant (replicate 13 0) ⇒ wrote 13 (hex "01 00000008 00 00 000000000000"))
    ∷ (follow-list P both_steps split_list ⇒ number (answered 4))
    ∷ (follow-list P both_steps short_list ⇒ number (refused 70 2))
    ∷ (follow-list P both_steps swapped_list ⇒ number (refused 68 1))
    ∷ (follow-list P both_steps other_kind ⇒ number (refused 69 0))
    ∷ []

-- without a start state any plan is right, with one line of kind 0 and one visit, of which this is the list: every plan block that is read, every grant
-- of 1 or more, and every buffer that the list fits
abbrev pub NoStart : Limits → List ℕ → List ℕ → Type 0
NoStart F problem list =
    (plan : List ℕ) (m : ℕ) → read_plan F problem plan ≡ answered m → (g : ℕ) → 1 ≤ g →
    (judge F problem plan g ≡ answered (right 1 1)) ×
    ((out : List ℕ) → length list ≤ length out →
    write_list F problem plan g out ≡ record { answer = answered (length list); buffer = list ++ drop (length list) out })

abbrev pub one_line : List ℕ
one_line = hex "01 00000008 00 00 000000000000"

abbrev pub one_line2 : List ℕ
one_line2 = hex "02 0000000a 00 00 0000000000000000"

-- a block with this body
abbrev pub block1 : List ℕ → List ℕ
block1 bytes = block 1 bytes

abbrev pub accepts : ℕ → ℕ → Reply
accepts n m = counts (answered (record { facts = n; actions = m }))

abbrev pub refuses : ℕ → ℕ → Reply
refuses n q = counts (refused n q)

-- a problem of one fact whose initial formula has these bytes, length included
abbrev pub initially : List ℕ → List ℕ
initially f = block1 (hex "01 00" ++ (f ++ hex "0001 00"))

-- a problem of one fact and one action with this effect count and these effects
abbrev acting : List ℕ → List ℕ
acting e = block1 (hex "01 01 0001 00 0001 00 0001 00" ++ e)

-- a version whose lists have two lines at most: 52 and "list too long" with few lines
abbrev two_lines : Limits
two_lines =
    record {
      version = 1;
      width = 48;
      facts = 48;
      effects = 96;
      line = 8;
      lines = 2;
    }

-- a list of P's lines
abbrev lines : List ℕ → List ℕ
lines bytes = block 1 bytes

-- nine facts that are all true at the start, and no action
abbrev nine : List ℕ
nine = block1 (hex "09 00 000b 80 09 00 01 02 03 04 05 06 07 08 0001 08")

-- each refusal in the order of its number, and the call just inside its edge; those of a format's full size are in the crate `trials`
abbrev pub edges : List Row
edges =
    -- 10 to 13
    (read-problem (replicate 32769 1) ⇒ refuses 10 32768)
    ∷ (read-problem (replicate 32768 1) ⇒ refuses 13 1)
    ∷ (read-problem [] ⇒ refuses 11 0)
    ∷ (read-problem (hex "01 000000") ⇒ refuses 11 4)
    ∷ (read-problem (hex "03 00000001") ⇒ refuses 12 0)
    ∷ (read-problem (hex "00 00000000") ⇒ refuses 12 0)
    ∷ (read-problem (hex "ff 00000000") ⇒ refuses 12 0)
    ∷ (read-problem (hex "02 00000001") ⇒ refuses 13 1)
    ∷ (read-problem (hex "01 00000001") ⇒ refuses 13 1)
    ∷ (read-problem (hex "01 01000000") ⇒ refuses 13 1)
    -- 14
    ∷ (read-problem (hex "01 00000000") ⇒ refuses 14 5)
    ∷ (read-problem (block1 (hex "01")) ⇒ refuses 14 6)
    ∷ (read-problem (block1 (hex "01 00 00")) ⇒ refuses 14 8)
    ∷ (read-problem (block1 (hex "01 00 0002 00")) ⇒ refuses 14 10)
    ∷ (read-problem (block1 (hex "01 00 0001 00")) ⇒ refuses 14 10)
    ∷ (read-problem (block1 (hex "01 01 0001 00 0001 00 0001 00")) ⇒ refuses 14 16)
    ∷ (read-problem (acting (hex "01")) ⇒ refuses 14 17)
    -- 15
    ∷ (read-problem (block1 (hex "00 00 0001 00 0001 00")) ⇒ refuses 15 5)
    ∷ (read-problem (block1 (hex "31 00 0001 00 0001 00")) ⇒ refuses 15 5)
    ∷ (read-problem (block1 (hex "30 00 0001 2f 0001 6f")) ⇒ accepts 48 0)
    -- 17
    ∷ (read-problem (initially (hex "0000")) ⇒ refuses 17 7)
    ∷ (read-problem (initially (hex "0001 00")) ⇒ accepts 1 0)
    -- 18
    ∷ (read-problem (initially (hex "0001 01")) ⇒ refuses 18 9)
    ∷ (read-problem (initially (hex "0001 40")) ⇒ accepts 1 0)
    ∷ (read-problem (initially (hex "0001 41")) ⇒ refuses 18 9)
    ∷ (read-problem (initially (hex "0001 82")) ⇒ refuses 18 9)
    ∷ (read-problem (initially (hex "0004 80 01 80 00")) ⇒ refuses 18 11)
    ∷ (read-problem (initially (hex "0004 80 01 81 00")) ⇒ accepts 1 0)
    ∷ (read-problem (initially (hex "0003 81 01 81")) ⇒ refuses 18 11)
    -- 19, also at the last stated byte
    ∷ (read-problem (initially (hex "0010 80 01 81 01 80 01 81 01 80 01 81 01 80 01 81 00")) ⇒ accepts 1 0)
    ∷ (read-problem (initially (hex "0012 80 01 81 01 80 01 81 01 80 01 81 01 80 01 81 01 80 00")) ⇒ refuses 19 25)
    ∷ (read-problem (initially (hex "0011 80 01 81 01 80 01 81 01 80 01 81 01 80 01 81 01 80")) ⇒ refuses 19 25)
    ∷ (read-problem (initially (hex "0012 80 01 81 01 80 01 81 01 80 01 81 01 80 01 81 01 81 00")) ⇒ refuses 18 25)
    -- 20, 21
    ∷ (read-problem (initially (hex "0001 80")) ⇒ refuses 20 10)
    ∷ (read-problem (initially (hex "0002 80 01")) ⇒ refuses 20 11)
    ∷ (read-problem (initially (hex "0003 80 02 00")) ⇒ refuses 20 12)
    ∷ (read-problem (initially (hex "0002 80 ff")) ⇒ refuses 20 11)
    ∷ (read-problem (initially (hex "0002 00 00")) ⇒ refuses 21 10)
    ∷ (read-problem (initially (hex "0003 80 00 00")) ⇒ refuses 21 11)
    -- 22
    ∷ (read-problem (acting (hex "61")) ⇒ refuses 22 16)
    -- 23, then 24
    ∷ (read-problem (acting (hex "01 01 0001 00")) ⇒ refuses 23 17)
    ∷ (read-problem (acting (hex "01 41 0001 00")) ⇒ refuses 23 17)
    ∷ (read-problem (acting (hex "02 00 0001 00 40 0001 00")) ⇒ accepts 1 1)
    ∷ (read-problem (acting (hex "02 00 0001 00 00 0001 00")) ⇒ refuses 24 21)
    ∷ (read-problem (acting (hex "02 40 0001 00 00 0001 00")) ⇒ refuses 24 21)
    ∷ (read-problem (acting (hex "02 40 0001 00 01 0001 00")) ⇒ refuses 23 21)
    -- 25
    ∷ (read-problem (block1 (hex "01 00 0001 00 0001 00 00")) ⇒ refuses 25 13)
    ∷ (read-problem (block1 (hex "01 00 0001 00 0001 00")) ⇒ accepts 1 0)
    -- 30 to 34, after the problem's
    ∷ (read-plan P (replicate 262 0) ⇒ number (refused 30 261))
    ∷ (read-plan P (block1 (replicate 256 0)) ⇒ number (answered 256))
    ∷ (read-plan P (hex "01 0000") ⇒ number (refused 31 3))
    ∷ (read-plan P (hex "02 00000000") ⇒ number (refused 32 0))
    ∷ (read-plan P (hex "01 00000001") ⇒ number (refused 33 1))
    ∷ (read-plan P (hex "01 00000002 01 02") ⇒ number (refused 34 6))
    ∷ (read-plan P (hex "01 00000002 01 01") ⇒ number (answered 2))
    ∷ (read-plan [] [] ⇒ number (refused 11 0))
    -- 40
    ∷ (run-state P both_steps 0x600000000000 ⇒ outcome (answered reached))
    ∷ (run-state P both_steps 0x100000000000 ⇒ outcome (refused 40 0))
    ∷ (run-state P both_steps 0x1000000000000 ⇒ outcome (refused 40 0))
    ∷ (run-state P both_steps 0 ⇒ outcome (answered missed))
    ∷ (run-state P_guarded both_steps 0 ⇒ outcome (answered (blocked (record { step = 0; part = at_member 0 }))))
    ∷ (run-state P [] 0 ⇒ outcome (refused 31 0))
    -- 50 to 53: no byte of the buffer is changed
    ∷ (write-list version1 P both_steps 4 (replicate 29 7) ⇒ kept 50 4 (replicate 29 7))
    ∷ (write-list version1 P step-0 grant (replicate 29 7) ⇒ kept 51 5 (replicate 29 7))
    ∷ (write-list two_lines P both_steps grant (replicate 29 7) ⇒ kept 52 3 (replicate 29 7))
    ∷ (write-list version1 P both_steps 5 (replicate 28 7) ⇒ kept 53 3 (replicate 28 7))
    ∷ (write-list version1 P both_steps 5 (replicate 29 7) ⇒ wrote 29 the_list)
    ∷ (write-list version1 [] both_steps 5 (replicate 3 7) ⇒ kept 11 0 (replicate 3 7))
    -- 60 to 64
    ∷ (follow-list P both_steps (replicate 65534 1) ⇒ number (refused 60 65533))
    ∷ (follow-list P both_steps [] ⇒ number (refused 61 0))
    ∷ (follow-list P both_steps (hex "03 00000000") ⇒ number (refused 62 0))
    ∷ (follow-list P both_steps (hex "01 00000008") ⇒ number (refused 63 1))
    ∷ (follow-list P both_steps (lines (replicate 9 0)) ⇒ number (refused 64 14))
    ∷ (follow-list P [] [] ⇒ number (refused 31 0))
    -- 65 to 70
    ∷ (follow-list P both_steps (lines (hex "02 04 000000000001")) ⇒ number (refused 65 0))
    ∷ (follow-list P both_steps (lines (hex "01 04 000000000001")) ⇒ number (refused 66 0))
    ∷ (follow-list P both_steps (lines (hex "01 03 300000000000")) ⇒ number (refused 67 0))
    ∷ (follow-list P both_steps (lines (hex "01 03 200000000000")) ⇒ number (refused 68 0))
    ∷ (follow-list P both_steps (lines (hex "01 03 000000000000")) ⇒ number (refused 69 0))
    ∷ (follow-list P both_steps (lines (hex "00 00 000000000000")) ⇒ number (refused 69 0))
    ∷ (follow-list P both_steps (lines []) ⇒ number (refused 70 0))
    ∷ (follow-list P both_steps (lines (hex "00 03 000000000000 00 03 200000000000")) ⇒ number (refused 70 2))
    ∷ (follow-list P both_steps (the_list ++ hex "00") ⇒ number (refused 63 1))
    -- the desk program
    ∷ (desk version1 P both_steps ⇒ text (codes "right lines 3 visited 5\nno-start 00?\ncarries 01?\ncarries 1??\n"))
    ∷ (desk version1 P step-0 ⇒ text (codes "wrong 010 at end visited 5\n"))
    ∷ (desk version1 P_guarded both_steps ⇒ text (codes "wrong 010 at step 0 member 0 visited 5\n"))
    ∷ (desk version1 [] both_steps ⇒ text (codes "refused problem 11 at 0\n"))
    ∷ (desk version1 P (hex "01 00000002 01 02") ⇒ text (codes "refused plan 34 at 6\n"))
    -- its numbers of one, two and three digits
    ∷ (desk version1 P (hex "01 00000005 01 01 01 01 02") ⇒ text (codes "refused plan 34 at 9\n"))
    ∷ (desk version1 nine no_step ⇒ text (codes "right lines 10 visited 19\nno-start 0????????\nno-start 10???????\nno-start 110??????\nno-start 1110?????\nno-start 11110????\nno-start 111110???\nno-start 1111110??\nno-start 11111110?\nno-start 111111110\ncarries 111111111\n"))
    -- the last refusal of a problem, the first of a plan, and a list that just fits or is too long
    ∷ (desk version1 (block1 (hex "01 00 0001 00 0001 00 00")) [] ⇒ text (codes "refused problem 25 at 13\n"))
    ∷ (desk version1 P (replicate 262 0) ⇒ text (codes "refused plan 30 at 261\n"))
    ∷ (desk two_lines (initially (hex "0001 00")) no_step ⇒ text (codes "right lines 2 visited 3\nno-start 0\ncarries 1\n"))
    ∷ (desk two_lines P both_steps ⇒ text (codes "right lines 3 visited 5\nlist too long\n"))
    ∷ []

-- the trial problem in version 2, and what its table above has of it
abbrev P2 : List ℕ
P2 =
    hex
    "02 00000020 03 02 0007 80 02 81 02 00 01 42 0001 02 0002 80 00 01 02 0001 00 0002 80 00 01 02 0001 01"

abbrev P2_guarded : List ℕ
P2_guarded =
    hex
    "02 0000001f 03 02 0007 80 02 81 02 00 01 42 0001 02 0001 00 01 02 0001 00 0002 80 00 01 02 0001 01"

abbrev P2_goal : List ℕ
P2_goal =
    hex
    "02 00000021 03 02 0007 80 02 81 02 00 01 42 0002 80 00 0002 80 00 01 02 0001 00 0002 80 00 01 02 0001 01"

abbrev pub P2_no_start : List ℕ
P2_no_start =
    hex
    "02 0000001b 03 02 0002 81 00 0001 02 0002 80 00 01 02 0001 00 0002 80 00 01 02 0001 01"

-- lists of version 2
abbrev block2 : List ℕ → List ℕ
block2 bytes = block 2 bytes

abbrev list2 : List ℕ
list2 = block2 (hex "00 02 0000000000000000 01 02 4000000000000000 01 01 8000000000000000")

-- so many facts, of which the initial formula and the goal are the given ones, and no action
abbrev facts2 : List ℕ → List ℕ → List ℕ → List ℕ
facts2 count initial goal = block2 (count ++ (hex "00" ++ (initial ++ goal)))

-- 64 facts; the last of them is true at the start and not at the goal
abbrev last2 : List ℕ
last2 = facts2 (hex "40") (hex "0002 80 00") (hex "0001 7f")

-- one line that covers every number, and such a list with one line more
abbrev whole2 : List ℕ → List ℕ
whole2 line = block2 (hex "01 00 0000000000000000" ++ line)

-- version 2: the trial problem; counts at their edges; states of 64 bits; lists of either version beside a problem of either, and in which order
-- that is refused; a cover that is full, which no line follows; relevant facts, a search and the desk program
abbrev pub versions : List Row
versions =
    (judge_with P2 both_steps grant ⇒ verdict (answered (right 3 5)))
    ∷ (write-list version2 P2 both_steps grant (replicate 36 7) ⇒ wrote 35 (list2 ++ (7 ∷ [])))
    ∷ (write-list version2 P2 both_steps grant (replicate 34 7) ⇒ kept 53 3 (replicate 34 7))
    ∷ (follow-list P2 both_steps list2 ⇒ number (answered 3))
    ∷ (judge_with P2 step-0 grant ⇒ verdict (answered (wrong 0x4000000000000000 missed 5)))
    ∷ (judge_with P2 no_step grant ⇒ verdict (answered (wrong 0x4000000000000000 missed 5)))
    ∷ (judge_with P2 both_steps 4 ⇒ verdict (answered (undecided 4)))
    ∷ (judge_with P2 both_steps 0 ⇒ verdict (answered (undecided 0)))
    ∷ (judge_with P2_guarded both_steps grant ⇒ verdict (answered (wrong 0x4000000000000000 (blocked (record { step = 0; part = at_member 0 })) 5)))
    ∷ (judge_with P2_goal no_step grant ⇒ verdict (answered (right 1 1)))
    ∷ (judge_with P2_no_start both_steps grant ⇒ verdict (answered (right 1 1)))
    ∷ (write-list version2 P2_no_start both_steps grant (replicate 15 0) ⇒ wrote 15 (block2 (hex "00 00 0000000000000000")))
    ∷ (follow-list P2 both_steps (block2 (hex "00 02 0000000000000000 01 02 4000000000000000 01 02 8000000000000000 01 02 c000000000000000")) ⇒ number (answered 4))
    ∷ (follow-list P2 both_steps (block2 (hex "00 02 0000000000000000 01 02 4000000000000000")) ⇒ number (refused 70 2))
    ∷ (follow-list P2 both_steps (block2 (hex "00 02 0000000000000000 01 01 8000000000000000 01 02 4000000000000000")) ⇒ number (refused 68 1))
    ∷ (follow-list P2 both_steps (block2 (hex "01 02 0000000000000000 01 02 4000000000000000 01 01 8000000000000000")) ⇒ number (refused 69 0))
    -- counts
    ∷ (read-problem (facts2 (hex "40") (hex "0001 3f") (hex "0001 7f")) ⇒ accepts 64 0)
    ∷ (read-problem (facts2 (hex "41") (hex "0001 00") (hex "0001 00")) ⇒ refuses 15 5)
    ∷ (read-problem (block2 (hex "01 01 0001 00 0001 00 0001 00 81")) ⇒ refuses 22 16)
    ∷ (read-problem (block2 (hex "01 01 0001 00 0001 00 0001 00 80")) ⇒ refuses 14 17)
    -- states
    ∷ (run-state last2 no_step 0xffffffffffffffff ⇒ outcome (answered missed))
    ∷ (run-state (facts2 (hex "3f") (hex "0001 00") (hex "0001 00")) no_step 0xffffffffffffffff ⇒ outcome (refused 40 0))
    ∷ (run-state (facts2 (hex "3f") (hex "0001 00") (hex "0001 00")) no_step 0xfffffffffffffffe ⇒ outcome (answered reached))
    ∷ (run-state P2 both_steps 0x1000000000000000 ⇒ outcome (refused 40 0))
    -- 60 to 64, and 71
    ∷ (follow-list P2 both_steps (replicate 65536 2) ⇒ number (refused 60 65535))
    ∷ (follow-list P2 both_steps (hex "02 0000") ⇒ number (refused 61 3))
    ∷ (follow-list P2 both_steps (hex "03 00000001") ⇒ number (refused 62 0))
    ∷ (follow-list P2 both_steps (hex "01 00000001") ⇒ number (refused 71 0))
    ∷ (follow-list P both_steps (hex "02 00000001") ⇒ number (refused 71 0))
    ∷ (follow-list P both_steps list2 ⇒ number (refused 71 0))
    ∷ (follow-list P2 both_steps the_list ⇒ number (refused 71 0))
    ∷ (follow-list P2 both_steps (hex "02 00000001") ⇒ number (refused 63 1))
    ∷ (follow-list P2 both_steps (block2 (replicate 8 0)) ⇒ number (refused 64 13))
    -- the cover, none and full
    ∷ (follow-list P2_goal no_step (block2 []) ⇒ number (refused 70 0))
    ∷ (follow-list P2_goal no_step (whole2 []) ⇒ number (answered 1))
    ∷ (follow-list P2_goal no_step (whole2 (hex "01 00 0000000000000000")) ⇒ number (refused 68 1))
    ∷ (follow-list P2_goal no_step (whole2 (hex "02 00 0000000000000000")) ⇒ number (refused 65 1))
    ∷ (follow-list P2_goal no_step (whole2 (hex "01 04 0000000000000000")) ⇒ number (refused 66 1))
    ∷ (follow-list P2_goal no_step (whole2 (hex "01 00 0000000000000001")) ⇒ number (refused 67 1))
    ∷ (cover-after P2_goal no_step (whole2 []) 1 ⇒ number (answered 0x10000000000000000))
    -- the others
    ∷ (relevant-facts P2 both_steps 0x4000000000000000 (replicate 9 7) ⇒ wrote 0x4000000000000000 (0 ∷ 1 ∷ 0 ∷ 0 ∷ 1 ∷ 0 ∷ 0 ∷ 1 ∷ 1 ∷ []))
    ∷ (search-plans P2 2 grant ⇒ searched (answered (first_right (0 ∷ 1 ∷ []) 27)))
    ∷ (desk version2 P2 both_steps ⇒ text (codes "right lines 3 visited 5\nno-start 00?\ncarries 01?\ncarries 1??\n"))
    ∷ (desk version2 P2_guarded both_steps ⇒ text (codes "wrong 010 at step 0 member 0 visited 5\n"))
    ∷ []

-- what the program shows where a million visits do not suffice: of every problem and plan that are read
abbrev pub DeskGrant : Limits → Type 0
DeskGrant F =
    (problem plan : List ℕ) (T : Task) → read_task F problem plan ≡ answered T →
    (1000000 < visits (walked T) → desk_text F problem plan ≡ codes "undecided visited 1000000\n") ×
    (visits (walked T) ≤ 1000000 →
    let v = found T (walked T) in
    desk_text F problem plan ≡ verdict_line F T.facts (line_count v) ++ verdict_rest F T.facts v)

-- four facts, and actions whose preconditions are: all of 0, 1, 2; any of 0, 1; fact 3; the empty "any"; all of 0, any of 1, 2, and 3;
-- and none, of the action that sets fact 0
abbrev guards : List ℕ
guards =
    block1
    (hex "04 06 0002 80 00 0002 80 00 0005 80 03 00 01 02 00 0004 81 02 00 01 00 0001 03 00 0002 81 00 00" ++
    hex "0008 80 03 00 81 02 01 02 03 00 0002 80 00 01 00 0002 80 00")

abbrev blocks_at : ℕ → ℕ → Reply
blocks_at i m = outcome (answered (blocked (record { step = i; part = at_member m })))

-- the member that blocks a run: the second and the third of an "all", the first of several, none; an "any", a literal, an
-- empty "any"; an "any" in an "all"; in the state before a later step; and what judge and desk program make of it
abbrev pub unmet_members : List Row
unmet_members =
    (run-state guards (block1 (0 ∷ [])) 0x800000000000 ⇒ blocks_at 0 1)
    ∷ (run-state guards (block1 (0 ∷ [])) 0xc00000000000 ⇒ blocks_at 0 2)
    ∷ (run-state guards (block1 (0 ∷ [])) 0 ⇒ blocks_at 0 0)
    ∷ (run-state guards (block1 (0 ∷ [])) 0xe00000000000 ⇒ outcome (answered reached))
    ∷ (run-state guards (block1 (1 ∷ [])) 0x300000000000 ⇒ blocks_at 0 0)
    ∷ (run-state guards (block1 (2 ∷ [])) 0xe00000000000 ⇒ blocks_at 0 0)
    ∷ (run-state guards (block1 (3 ∷ [])) 0xf00000000000 ⇒ blocks_at 0 0)
    ∷ (run-state guards (block1 (4 ∷ [])) 0x900000000000 ⇒ blocks_at 0 1)
    ∷ (run-state guards (block1 (5 ∷ 0 ∷ [])) 0x400000000000 ⇒ blocks_at 1 2)
    ∷ (judge_with guards (block1 (5 ∷ 0 ∷ [])) grant ⇒ verdict (answered (wrong 0 (blocked (record { step = 1; part = at_member 1 })) 5)))
    ∷ (desk version1 guards (block1 (5 ∷ 0 ∷ [])) ⇒ text (codes "wrong 0000 at step 1 member 1 visited 5\n"))
    ∷ []

-- the trial problem, where an action always sets and always clears fact 2
abbrev P_both : List ℕ
P_both = hex "01 0000001d 03 01 0007 80 02 81 02 00 01 42 0001 02 0002 80 00 02 02 0002 80 00 42 0002 80 00"

-- three facts, of which 0 is false at the start, and no goal; actions: 0 sets and clears 1 and 2, 1 sets and clears 2 where 1 is true;
-- 2 sets and clears 1 if 0 is true; 3 sets 0; 4 sets 2 if 1 is true and clears it if not; 5 clears 1
abbrev stalls : List ℕ
stalls =
    block1
    (hex "03 06 0001 40 0002 80 00 0002 80 00 04 01 0002 80 00 02 0002 80 00 41 0002 80 00 42 0002 80 00" ++
    (hex "0001 01 02 02 0002 80 00 42 0002 80 00 0002 80 00 02 01 0001 00 41 0001 00" ++
    hex "0002 80 00 01 00 0002 80 00 0002 80 00 02 02 0001 01 42 0001 41 0002 80 00 01 41 0002 80 00"))

abbrev pub stalls_at : ℕ → ℕ → Outcome
stalls_at i f = blocked (record { step = i; part = at_fact f })

-- an action that sets and clears a fact at once: the run is blocked; the lower of two facts is named; a precondition that is not true comes
-- before; a fact that is false, and one that is true already; conditions that are true in no start state, and
-- after a step that makes them so; a case in which the pair reads unknown is open and its parts close; set or clear alone
abbrev pub conflicts : List Row
conflicts =
    (run-state P_both step-0 0 ⇒ outcome (answered (stalls_at 0 2)))
    ∷ (judge_with P_both step-0 grant ⇒ verdict (answered (wrong 0x400000000000 (stalls_at 0 2) 5)))
    ∷ (desk version1 P_both step-0 ⇒ text (codes "wrong 010 at step 0 fact 2 visited 5\n"))
    ∷ (run-state stalls (block1 (0 ∷ [])) 0 ⇒ outcome (answered (stalls_at 0 1)))
    ∷ (run-state stalls (block1 (1 ∷ [])) 0 ⇒ blocks_at 0 0)
    ∷ (run-state stalls (block1 (1 ∷ [])) 0x400000000000 ⇒ outcome (answered (stalls_at 0 2)))
    ∷ (run-state stalls (block1 (1 ∷ [])) 0x600000000000 ⇒ outcome (answered (stalls_at 0 2)))
    ∷ (run-state stalls (block1 (2 ∷ [])) 0x800000000000 ⇒ outcome (answered (stalls_at 0 1)))
    ∷ (judge_with stalls (block1 (2 ∷ [])) grant ⇒ verdict (answered (right 2 3)))
    ∷ (run-state stalls (block1 (3 ∷ 2 ∷ [])) 0 ⇒ outcome (answered (stalls_at 1 1)))
    ∷ (judge_with stalls (block1 (3 ∷ 2 ∷ [])) grant ⇒ verdict (answered (wrong 0 (stalls_at 1 1) 4)))
    ∷ (desk version1 stalls (block1 (4 ∷ [])) ⇒ text (codes "right lines 3 visited 5\ncarries 00?\ncarries 01?\nno-start 1??\n"))
    ∷ (follow-list stalls (block1 (4 ∷ [])) (lines (hex "01 02 000000000000 01 02 400000000000 00 01 800000000000")) ⇒ number (answered 3))
    ∷ (follow-list stalls (block1 (4 ∷ [])) (lines (hex "01 01 000000000000 00 01 800000000000")) ⇒ number (refused 69 0))
    ∷ (judge_with stalls (block1 (3 ∷ 5 ∷ [])) grant ⇒ verdict (answered (right 1 1)))
    ∷ []

-- the running value: before the first line, after each, and past the last; where a list ends short, and where it has
-- no line; before a line that begins elsewhere and at it; before a claim that is not so and at it; and the refusals that come first
abbrev pub running_ends : List Row
running_ends =
    (cover-after P both_steps the_list 0 ⇒ number (answered 0))
    ∷ (cover-after P both_steps the_list 1 ⇒ number (answered 0x400000000000))
    ∷ (cover-after P both_steps the_list 2 ⇒ number (answered 0x800000000000))
    ∷ (cover-after P both_steps the_list 3 ⇒ number (answered 0x1000000000000))
    ∷ (cover-after P both_steps the_list 4 ⇒ number (answered 0x1000000000000))
    ∷ (cover-after P both_steps short_list 3 ⇒ number (answered 0x800000000000))
    ∷ (cover-after P both_steps (lines []) 1 ⇒ number (answered 0))
    ∷ (cover-after P both_steps swapped_list 1 ⇒ number (answered 0x400000000000))
    ∷ (cover-after P both_steps swapped_list 2 ⇒ number (refused 68 1))
    ∷ (cover-after P both_steps swapped_list 3 ⇒ number (refused 68 1))
    ∷ (cover-after P both_steps other_kind 0 ⇒ number (answered 0))
    ∷ (cover-after P both_steps other_kind 1 ⇒ number (refused 69 0))
    ∷ (cover-after P both_steps (lines (replicate 9 0)) 0 ⇒ number (refused 64 14))
    ∷ (cover-after P both_steps [] 0 ⇒ number (refused 61 0))
    ∷ (cover-after P [] [] 0 ⇒ number (refused 31 0))
    ∷ []

-- four facts and goal 1; actions: 0 sets 1 if 0 is true; 1 clears 1 if 0 is; 2 sets 2 if 0 is and clears 2 if 3 is; 3 has the precondition 0
-- and no effect; 4 sets 1 if 0 is true or 2 is not
abbrev resting : List ℕ
resting =
    block1
    (hex "04 05 0002 80 00 0001 01 0002 80 00 01 01 0001 00 0002 80 00 01 41 0001 00" ++
    hex "0002 80 00 02 02 0001 00 42 0001 03 0001 00 00 0002 80 00 01 01 0004 81 02 00 42")

-- relevant facts, with the states of the run in the work area: the trial problem from three states; a fact that was surely set, also where it was
-- true already, and one that was not,
-- of a set and of a clear entry; a fact with both entries that matters to nobody; a precondition; a condition that names several facts; two
-- steps, of which the second overwrites nothing; no step, and no fact that matters. Work areas that are longer, exact and short (42); a run
-- that is missed, blocked by a member and by a fact (41, before 42); and what comes first: no state (40), the plan's refusals, the problem's.
abbrev pub relevances : List Row
relevances =
    (relevant-facts P both_steps 0x600000000000 (replicate 10 7) ⇒ wrote 0x400000000000 (hex "000101 000101 000101 07"))
    ∷ (relevant-facts P both_steps 0x800000000000 (replicate 9 7) ⇒ wrote 0xc00000000000 (hex "010000 010001 010001"))
    ∷ (relevant-facts P both_steps 0x200000000000 (replicate 9 7) ⇒ wrote 0xe00000000000 (hex "000001 000001 000001"))
    ∷ (relevant-facts resting (block1 (0 ∷ [])) 0x800000000000 (replicate 9 7) ⇒ wrote 0x800000000000 (hex "01000000 01010000 07"))
    ∷ (relevant-facts resting (block1 (0 ∷ [])) 0xc00000000000 (replicate 8 7) ⇒ wrote 0x800000000000 (hex "01010000 01010000"))
    ∷ (relevant-facts resting (block1 (0 ∷ [])) 0x400000000000 (replicate 8 7) ⇒ wrote 0xc00000000000 (hex "00010000 00010000"))
    ∷ (relevant-facts resting (block1 (1 ∷ [])) 0x400000000000 (replicate 8 7) ⇒ wrote 0xc00000000000 (hex "00010000 00010000"))
    ∷ (relevant-facts resting (block1 (2 ∷ [])) 0x400000000000 (replicate 8 7) ⇒ wrote 0xd00000000000 (hex "00010000 00010000"))
    ∷ (relevant-facts resting (block1 (3 ∷ [])) 0xc00000000000 (replicate 8 7) ⇒ wrote 0xc00000000000 (hex "01010000 01010000"))
    ∷ (relevant-facts resting (block1 (4 ∷ [])) 0 (replicate 8 7) ⇒ wrote 0xa00000000000 (hex "00000000 00010000"))
    ∷ (relevant-facts resting (block1 (4 ∷ 1 ∷ [])) 0 (replicate 12 7) ⇒ wrote 0xa00000000000 (hex "00000000 00010000 00010000"))
    ∷ (relevant-facts resting no_step 0x500000000000 (replicate 4 7) ⇒ wrote 0x400000000000 (hex "00010001"))
    ∷ (relevant-facts P_goal no_step 0xa00000000000 (replicate 3 7) ⇒ wrote 0 (hex "010001"))
    ∷ (relevant-facts resting (block1 (0 ∷ [])) 0x800000000000 (replicate 7 7) ⇒ kept 42 0 (replicate 7 7))
    ∷ (relevant-facts resting no_step 0x400000000000 [] ⇒ kept 42 0 [])
    ∷ (relevant-facts resting (block1 (0 ∷ [])) 0 (replicate 8 7) ⇒ kept 41 0 (replicate 8 7))
    ∷ (relevant-facts resting (block1 (3 ∷ [])) 0x400000000000 (replicate 8 7) ⇒ kept 41 0 (replicate 8 7))
    ∷ (relevant-facts resting (block1 (2 ∷ [])) 0xd00000000000 (replicate 8 7) ⇒ kept 41 0 (replicate 8 7))
    ∷ (relevant-facts resting (block1 (0 ∷ [])) 0 (replicate 7 7) ⇒ kept 41 0 (replicate 7 7))
    ∷ (relevant-facts resting (block1 (0 ∷ [])) 0x080000000000 (replicate 7 7) ⇒ kept 40 0 (replicate 7 7))
    ∷ (relevant-facts resting (block1 (5 ∷ [])) 0x080000000000 (replicate 7 7) ⇒ kept 34 5 (replicate 7 7))
    ∷ (relevant-facts [] [] 0 (7 ∷ []) ⇒ kept 11 0 (7 ∷ []))
    ∷ []

-- so many rows of one state
abbrev rows_of : ℕ → List ℕ → List ℕ
rows_of zero row = []
rows_of (suc n) row = row ++ rows_of n row

-- what both layouts of a run over `resting` have of 15 times action 0 from 1000
abbrev first_16 : List ℕ
first_16 = hex "01000000" ++ rows_of 15 (hex "01010000")

-- relevant facts from fewer rows: no step, 2, 15, 16, 17 and 32 of them, with rows that are free, one that is kept and changed by a step before it,
-- and three that are kept. Work areas that are longer, exact and one byte short (42), among them one that suffices for every row; a run that is
-- missed (41, before 42); and what comes first.
abbrev pub sparse_relevances : List Row
sparse_relevances =
    (relevant-facts-sparse resting no_step 0x500000000000 (replicate 69 7) ⇒ wrote 0x400000000000 (hex "00010001 00010001" ++ replicate 60 0 ++ (7 ∷ [])))
    ∷ (relevant-facts-sparse resting (block1 (4 ∷ 1 ∷ [])) 0 (replicate 68 7) ⇒ wrote 0xa00000000000 (hex "00000000 00000000 00010000 00010000" ++ replicate 52 0))
    ∷ (relevant-facts-sparse resting (block1 (replicate 15 0)) 0x800000000000 (replicate 69 7) ⇒ wrote 0x800000000000 (hex "01000000" ++ first_16 ++ (7 ∷ [])))
    ∷ (relevant-facts-sparse resting (block1 (replicate 15 0 ++ (2 ∷ []))) 0x800000000000 (replicate 73 7) ⇒ wrote 0x900000000000 (hex "01000000 01010100" ++ first_16 ++ (7 ∷ [])))
    ∷ (relevant-facts-sparse resting (block1 (replicate 15 0 ++ (2 ∷ 0 ∷ []))) 0x800000000000 (replicate 72 7) ⇒ wrote 0x900000000000 (hex "01000000 01010100" ++ first_16))
    ∷ (relevant-facts-sparse resting (block1 (replicate 15 0 ++ (2 ∷ replicate 16 0))) 0x800000000000 (replicate 76 7) ⇒ wrote 0x900000000000 (hex "01000000 01010100 01010100" ++ first_16))
    ∷ (relevant-facts-sparse P2 both_steps 0x4000000000000000 (replicate 51 7) ⇒ wrote 0x4000000000000000 (hex "000100 000100 000100 000101" ++ replicate 39 0))
    ∷ (relevant-facts-sparse resting no_step 0x400000000000 (replicate 67 7) ⇒ kept 42 0 (replicate 67 7))
    ∷ (relevant-facts-sparse resting (block1 (replicate 15 0 ++ (2 ∷ []))) 0x800000000000 (replicate 71 7) ⇒ kept 42 0 (replicate 71 7))
    ∷ (relevant-facts-sparse resting (block1 (0 ∷ [])) 0 (replicate 67 7) ⇒ kept 41 0 (replicate 67 7))
    ∷ (relevant-facts-sparse resting (block1 (0 ∷ [])) 0x080000000000 (replicate 67 7) ⇒ kept 40 0 (replicate 67 7))
    ∷ (relevant-facts-sparse resting (block1 (5 ∷ [])) 0x080000000000 (replicate 67 7) ⇒ kept 34 5 (replicate 67 7))
    ∷ (relevant-facts-sparse [] [] 0 (7 ∷ []) ⇒ kept 11 0 (7 ∷ []))
    ∷ []

-- so many actions with precondition fact 0 and no effect
abbrev pub idle : ℕ → List ℕ
idle zero = []
idle (suc n) = 0 ∷ 1 ∷ 0 ∷ 0 ∷ idle n

-- one fact, false at the start and the goal, and so many such actions: no plan is right, and the walk of each takes two visits
abbrev pub idling : ℕ → List ℕ
idling m = block1 (1 ∷ m ∷ (hex "0001 40 0001 00" ++ idle m))

abbrev pub finds : List ℕ → ℕ → Reply
finds plan used = searched (answered (first_right plan used))

abbrev pub finds_none : ℕ → Reply
finds_none used = searched (answered (none_right used))

abbrev pub stops_at : List ℕ → ℕ → Reply
stops_at plan used = searched (answered (undecided_at plan used))

-- search: the trial problem, whose plans of the steps 0, 1 and 1, 0 are right, up to each length, and with grants that suffice,
-- fall one short, and are used up before and at a plan; a problem whose empty plan is right, and one without start states; no plan right, with 0, 1 and
-- more actions; 31, 32 and 64 actions; and what is refused, the problem's refusals first, then 43, then 44.
abbrev pub searches : List Row
searches =
    (search-plans P 0 grant ⇒ finds_none 5)
    ∷ (search-plans P 1 grant ⇒ finds_none 17)
    ∷ (search-plans P 2 grant ⇒ finds (0 ∷ 1 ∷ []) 27)
    ∷ (search-plans P 3 grant ⇒ finds (0 ∷ 1 ∷ []) 27)
    ∷ (search-plans P 4 28 ⇒ finds (0 ∷ 1 ∷ []) 27)
    ∷ (search-plans P 4 27 ⇒ finds (0 ∷ 1 ∷ []) 27)
    ∷ (search-plans P 4 26 ⇒ stops_at (0 ∷ 1 ∷ []) 26)
    ∷ (search-plans P 4 22 ⇒ stops_at (0 ∷ 1 ∷ []) 22)
    ∷ (search-plans P 4 21 ⇒ stops_at (0 ∷ 0 ∷ []) 21)
    ∷ (search-plans P 1 17 ⇒ finds_none 17)
    ∷ (search-plans P 1 16 ⇒ stops_at (1 ∷ []) 16)
    ∷ (search-plans P 1 0 ⇒ stops_at [] 0)
    ∷ (search-plans P_goal 4 1 ⇒ finds [] 1)
    ∷ (search-plans P_no_start 4 1 ⇒ finds [] 1)
    ∷ (search-plans P_no_start 4 0 ⇒ stops_at [] 0)
    ∷ (search-plans (idling 0) 0 2 ⇒ finds_none 2)
    ∷ (search-plans (idling 0) 4 2 ⇒ finds_none 2)
    ∷ (search-plans (idling 1) 4 10 ⇒ finds_none 10)
    ∷ (search-plans (idling 1) 4 9 ⇒ stops_at (0 ∷ 0 ∷ 0 ∷ 0 ∷ []) 9)
    ∷ (search-plans (idling 3) 2 26 ⇒ finds_none 26)
    ∷ (search-plans (idling 3) 2 25 ⇒ stops_at (2 ∷ 2 ∷ []) 25)
    ∷ (search-plans (idling 31) 4 5 ⇒ stops_at (1 ∷ []) 5)
    ∷ (search-plans (idling 32) 4 5 ⇒ searched (refused 44 0))
    ∷ (search-plans (idling 32) 3 5 ⇒ stops_at (1 ∷ []) 5)
    ∷ (search-plans (idling 64) 3 5 ⇒ stops_at (1 ∷ []) 5)
    ∷ (search-plans (idling 64) 4 5 ⇒ searched (refused 44 0))
    ∷ (search-plans (idling 64) 5 5 ⇒ searched (refused 43 0))
    ∷ (search-plans (idling 0) 5 5 ⇒ searched (refused 43 0))
    ∷ (search-plans P 0xffffffffffffffff 0 ⇒ searched (refused 43 0))
    ∷ (search-plans [] 5 0 ⇒ searched (refused 11 0))
    ∷ []

-- two halls: 2 facts and 1 action; 2 facts and 2 actions, of version 2
abbrev hall : List ℕ
hall = hex "01 00000014 02 01 0004 81 02 00 01 0001 01 0002 80 00 01 01 0001 00"

abbrev other_hall : List ℕ
other_hall =
    hex
    "02 00000027 02 02 0004 80 02 00 41 0004 81 02 40 01 0001 00 01 01 0002 80 00 0002 80 00 02 40 0001 41 41 0004 81 02 00 01"

-- a problem of so many facts, with no action, whose start and goal have so many bytes
abbrev hall_of : ℕ → List ℕ → List ℕ → List ℕ
hall_of facts initial goal =
    block
    2
    (facts ∷ 0 ∷ (bytes_of 2 (length initial) ++ (initial ++ (bytes_of 2 (length goal) ++ goal))))

abbrev always : List ℕ
always = hex "80 00"

-- groups in one another, 8 deep: an "any" that is the outermost, and an "all"
abbrev deep_any : List ℕ
deep_any = hex "81 01 80 01 81 01 80 01 81 01 80 01 81 01 80 00"

abbrev deep_all : List ℕ
deep_all = hex "80 01 81 01 80 01 81 01 80 01 81 01 80 01 81 00"

-- an "all" and an "any" of so many literals; and an "all" of three of the longest of these
abbrev all_of : ℕ → List ℕ
all_of n = 0x80 ∷ n ∷ replicate n 0

abbrev any_of : ℕ → List ℕ
any_of n = 0x81 ∷ n ∷ replicate n 0

abbrev long_all : List ℕ
long_all = 0x80 ∷ 3 ∷ (any_of 255 ++ (any_of 255 ++ any_of 255))

-- two halls that idle as one problem: the second's actions ask for its fact, which is fact 1 now
abbrev idle_moved : ℕ → List ℕ
idle_moved zero = []
idle_moved (suc n) = 0 ∷ 1 ∷ 1 ∷ 0 ∷ idle_moved n

abbrev both_idling : ℕ → ℕ → List ℕ
both_idling m n = block 2 (2 ∷ (m + n) ∷ (hex "0004 80 02 40 41 0004 80 02 00 01" ++ (idle m ++ idle_moved n)))

abbrev merged_as : ℕ → List ℕ → List ℕ → Reply
merged_as count out table =
    merges (record { answer = answered (record { block = length out; table = count }); out = out; table = table })

abbrev not_merged : ℕ → ℕ → List ℕ → List ℕ → Reply
not_merged n q out table = merges (record { answer = refused n q; out = out; table = table })

-- merge: two halls with room to spare and without, and exchanged; no action, one and 64 of them; too short a buffer for the block and for the
-- table; 64 facts and 65; an "any" that gets too deep, and an "all" as deep that does not; 255 members and 256; 1,024 bytes and 1,025; 65 actions;
-- and what is refused of the halls, the first hall's first
abbrev pub merge_rows : List Row
merge_rows =
    (merge-halls hall other_hall (replicate 62 7) (replicate 4 7) ⇒
    merges
    (record {
      answer = answered (record { block = 60; table = 3 });
      out = hex "02 00000037 04 03 0008 80 03 81 02 00 01 02 43 0007 80 02 01 81 02 42 03 0002 80 00 01 01 0001 00 0001 02 01 03 0002 80 00 0002 80 00 02 42 0001 43 43 0004 81 02 02 03" ++ (7 ∷ 7 ∷ []);
      table = 0 ∷ 1 ∷ 2 ∷ 7 ∷ [];
    }))
    ∷ (merge-halls other_hall hall (replicate 60 7) (replicate 3 7) ⇒
    merged_as 3 (hex "02 00000037 04 03 0008 80 03 00 41 81 02 02 03 0007 80 02 81 02 40 01 03 0001 00 01 01 0002 80 00 0002 80 00 02 40 0001 41 41 0004 81 02 00 01 0002 80 00 01 03 0001 02") (0 ∷ 1 ∷ 2 ∷ []))
    ∷ (merge-halls (idling 0) (idling 0) (replicate 19 7) [] ⇒ merged_as 0 (both_idling 0 0) [])
    ∷ (merge-halls (idling 0) (idling 1) (replicate 23 7) (7 ∷ []) ⇒ merged_as 1 (both_idling 0 1) (0 ∷ []))
    ∷ (merge-halls (idling 31) (idling 33) (replicate 275 7) (replicate 64 7) ⇒
    merged_as 64 (both_idling 31 33) (hex "000102030405060708090a0b0c0d0e0f 101112131415161718191a1b1c1d1e1f 202122232425262728292a2b2c2d2e2f 303132333435363738393a3b3c3d3e3f"))
    ∷ (merge-halls hall other_hall (replicate 59 7) (replicate 3 7) ⇒ not_merged 86 0 (replicate 59 7) (replicate 3 7))
    ∷ (merge-halls hall other_hall (replicate 60 7) (replicate 2 7) ⇒ not_merged 86 0 (replicate 60 7) (replicate 2 7))
    ∷ (merge-halls (hall_of 63 always always) (hall_of 1 always (0 ∷ [])) (replicate 16 7) [] ⇒ merged_as 0 (hall_of 64 always (hex "80 01 3f")) [])
    ∷ (merge-halls (hall_of 64 always always) (hall_of 1 always always) (replicate 15 7) [] ⇒ not_merged 82 0 (replicate 15 7) [])
    ∷ (merge-halls (hall_of 64 deep_any always) (hall_of 1 always always) [] [] ⇒ not_merged 82 0 [] [])
    ∷ (merge-halls (hall_of 1 deep_any always) (hall_of 1 always always) [] [] ⇒ not_merged 84 0 [] [])
    ∷ (merge-halls (hall_of 1 always always) (hall_of 1 always deep_any) [] [] ⇒ not_merged 84 0 [] [])
    ∷ (merge-halls (hall_of 1 deep_all always) (hall_of 1 always deep_all) (replicate 43 7) [] ⇒ merged_as 0 (hall_of 2 deep_all deep_all) [])
    ∷ (merge-halls (hall_of 1 (all_of 254) always) (hall_of 1 (0 ∷ []) always) (replicate 270 7) [] ⇒
    merged_as 0 (hall_of 2 (0x80 ∷ 255 ∷ (replicate 254 0 ++ (1 ∷ []))) always) [])
    ∷ (merge-halls (hall_of 1 (all_of 254) always) (hall_of 1 (all_of 2) always) (replicate 271 7) [] ⇒ not_merged 84 0 (replicate 271 7) [])
    ∷ (merge-halls (hall_of 1 always long_all) (hall_of 1 always (any_of 249)) [] [] ⇒ not_merged 86 0 [] [])
    ∷ (merge-halls (hall_of 1 always long_all) (hall_of 1 always (any_of 250)) [] [] ⇒ not_merged 84 0 [] [])
    ∷ (merge-halls (idling 64) (idling 1) [] [] ⇒ not_merged 83 0 [] [])
    ∷ (merge-halls [] [] (7 ∷ []) (7 ∷ []) ⇒ not_merged 11 0 (7 ∷ []) (7 ∷ []))
    ∷ (merge-halls (3 ∷ hex "00000000") [] [] [] ⇒ not_merged 12 0 [] [])
    ∷ (merge-halls hall (2 ∷ hex "00000001 41") (7 ∷ []) [] ⇒ not_merged 15 5 (7 ∷ []) [])
    ∷ []

-- tables: every row gives what it says
abbrev pub Hold : List Row → Type 0
Hold rows = map (λ r. reply r.call) rows ≡ map (λ r. r.gives) rows
