-- Rows of the trial tables at the formats' full sizes. They take longer to compute than all of model's own, so they stand apart.
use Rattle.std.specs.Prelude.{List, [], ◌∷◌, ◌++◌, ℕ, zero, suc, ◌+◌, replicate, codes}
use Prim.Native.String.{String}
use Rattle.model.specs.Limits.{version1}
use Rattle.model.specs.Answer.{answered}
use Rattle.model.specs.Run.{missed}
use Rattle.model.specs.Read.{block}
use Rattle.model.specs.Walk.{right, wrong}
use Rattle.model.specs.Text.{hex}
use Rattle.model.specs.Trials.{Hold, read-problem, judge_with, cover-after, relevant-facts, relevant-facts-sparse, desk, number, verdict, text, Row, ◌⇒◌, wrote, no_step, step-0, grant, block1, accepts, refuses, initially, stalls_at, idle}

-- so many effects, each on condition fact 0, from a literal byte on
abbrev rising : ℕ → ℕ → List ℕ
rising zero b = []
rising (suc n) b = b ∷ 0 ∷ 1 ∷ 0 ∷ rising n (b + 1)

-- 48 facts, one action that sets fact 47 always, and 256 steps of it
abbrev wide : List ℕ
wide = block1 (hex "30 01 0002 80 00 0001 2f 0002 80 00 01 2f 0002 80 00")

-- 48 facts that are all true at the start, and no action
abbrev deep : List ℕ
deep =
    block1
    (hex "30 00 0032 80 30 00 01 02 03 04 05 06 07 08 09 0a 0b 0c 0d 0e 0f 10 11 12 13 14 15 16 17" ++
    hex "18 19 1a 1b 1c 1d 1e 1f 20 21 22 23 24 25 26 27 28 29 2a 2b 2c 2d 2e 2f 0001 2f")

-- an "any" of 255 members
abbrev 81ff : List ℕ
81ff = hex "81 ff" ++ replicate 255 0

-- so many steps of action 0
abbrev long_plan : ℕ → List ℕ
long_plan n = block1 (replicate n 0)

-- one fact, the goal, that one action asks for and keeps
abbrev lasting : List ℕ
lasting = block1 (hex "01 01 0001 00 0001 00" ++ idle 1)

-- 48 facts, and one action that always sets and always clears 47
abbrev wide_both : List ℕ
wide_both = block1 (hex "30 01 0002 80 00 0001 2f 0002 80 00 02 2f 0002 80 00 6f 0002 80 00")

-- six facts; initial: any of 2, 3; goal: any of 5, not 5, which reads unknown until fact 5 is fixed; two actions without effects, of
-- which action 1 is not applicable where all six are true
abbrev bushy : List ℕ
bushy = block1 (hex "06 02 0004 81 02 02 03 0004 81 02 05 45 0002 80 00 00 0008 81 06 40 41 42 43 44 45 00")

-- a "carries" line with the values v and each of the endings
abbrev carrying : String → List String → List ℕ
carrying v [] = []
carrying v (e ∷ es) = codes "carries " ++ (codes v ++ (codes e ++ (codes "\n" ++ carrying v es)))

-- the thirteen lines of `bushy`, with no step, whose first two values are v
abbrev quarter : String → List ℕ
quarter v =
    codes "no-start " ++
    (codes v ++ (codes "00??\n" ++
    carrying v ("0100" ∷ "0101" ∷ "0110" ∷ "0111" ∷ "1000" ∷ "1001" ∷ "1010" ∷ "1011" ∷ "1100" ∷ "1101" ∷ "1110" ∷ "1111" ∷ [])))

-- for `wide` and its action once: two lines of one number each, and one of the two after them
abbrev single_numbers : List ℕ
single_numbers = block1 (hex "01 30 000000000000 01 30 000000000001 01 2f 000000000002")

-- 64 facts that are all true at the start; the last of them at the goal, or its denial; and no action
abbrev all_true : List ℕ
all_true =
    hex "0042 80 40 00 01 02 03 04 05 06 07 08 09 0a 0b 0c 0d 0e 0f 10 11 12 13 14 15 16 17 18 19 1a 1b 1c 1d 1e 1f" ++
    hex "20 21 22 23 24 25 26 27 28 29 2a 2b 2c 2d 2e 2f 30 31 32 33 34 35 36 37 38 39 3a 3b 3c 3d 3e 3f"

abbrev deep2 : List ℕ
deep2 = block 2 (hex "40 00" ++ (all_true ++ hex "0001 3f"))

abbrev never2 : List ℕ
never2 = block 2 (hex "40 00" ++ (all_true ++ hex "0001 7f"))

-- 16, 17 and 22 at their edges; 48 facts and 256 steps; a fact 47 that is set and cleared at once; pages whose numbers have three digits; the running
-- value after lines that fix all of 48 facts, and after one that fixes none; the relevant facts of runs over 48 facts, none or the last, and from fewer
-- rows of runs of 255 and 256 steps
abbrev pub sizes : List Row
sizes =
    (read-problem (block1 (hex "01 41 0001 00 0001 00" ++ idle 65)) ⇒ refuses 16 6)
    ∷ (read-problem (block1 (hex "01 40 0001 00 0001 00" ++ idle 64)) ⇒ accepts 1 64)
    ∷ (read-problem (initially (hex "0400 80 04" ++ (81ff ++ (81ff ++ (81ff ++ (hex "81 f9" ++ replicate 249 0)))))) ⇒ accepts 1 0)
    ∷ (read-problem (initially (hex "0401 80 04" ++ (81ff ++ (81ff ++ (81ff ++ (hex "81 fa" ++ replicate 250 0)))))) ⇒ refuses 17 7)
    ∷ (read-problem (block1 (hex "30 01 0001 00 0001 00 0001 00 60" ++ (rising 48 0 ++ rising 48 64))) ⇒ accepts 48 1)
    ∷ (judge_with wide (long_plan 256) grant ⇒ verdict (answered (right 1 1)))
    ∷ (judge_with deep no_step grant ⇒ verdict (answered (right 49 97)))
    ∷ (desk version1 bushy no_step ⇒ text (codes "right lines 52 visited 103\n" ++ (quarter "00" ++ (quarter "01" ++ (quarter "10" ++ quarter "11")))))
    ∷ (desk version1 bushy (hex "01 0000000b 00 00 00 00 00 00 00 00 00 00 01") ⇒ text (codes "wrong 111111 at step 10 member 0 visited 103\n"))
    ∷ (judge_with wide_both step-0 grant ⇒ verdict (answered (wrong 0 (stalls_at 0 47) 49)))
    ∷ (cover-after wide step-0 single_numbers 1 ⇒ number (answered 1))
    ∷ (cover-after wide step-0 single_numbers 2 ⇒ number (answered 2))
    ∷ (cover-after wide step-0 single_numbers 3 ⇒ number (answered 4))
    ∷ (cover-after wide step-0 (block1 (hex "01 00 000000000000")) 1 ⇒ number (answered 0x1000000000000))
    ∷ (relevant-facts wide step-0 0 (replicate 97 7) ⇒ wrote 0 (replicate 95 0 ++ (1 ∷ 7 ∷ [])))
    ∷ (relevant-facts wide no_step 1 (replicate 48 7) ⇒ wrote 1 (replicate 47 0 ++ (1 ∷ [])))
    ∷ (relevant-facts deep no_step 0xffffffffffff (replicate 48 7) ⇒ wrote 1 (replicate 48 1))
    ∷ (relevant-facts-sparse lasting (long_plan 255) 0x800000000000 (replicate 33 7) ⇒ wrote 0x800000000000 (replicate 32 1 ++ (7 ∷ [])))
    ∷ (relevant-facts-sparse lasting (long_plan 256) 0x800000000000 (replicate 33 7) ⇒ wrote 0x800000000000 (replicate 33 1))
    -- version 2: 128 effects; verdicts over 64 facts, at the highest state; the relevant facts of a run over 64
    ∷ (read-problem (block 2 (hex "40 01 0001 00 0001 00 0001 00 80" ++ (rising 64 0 ++ rising 64 64))) ⇒ accepts 64 1)
    ∷ (judge_with deep2 no_step grant ⇒ verdict (answered (right 65 129)))
    ∷ (judge_with never2 no_step grant ⇒ verdict (answered (wrong 0xffffffffffffffff missed 129)))
    ∷ (relevant-facts deep2 no_step 0xffffffffffffffff (replicate 64 7) ⇒ wrote 1 (replicate 64 1))
    ∷ []

pub record SizesHold : Type 0 where
  pub sizes : Hold sizes
