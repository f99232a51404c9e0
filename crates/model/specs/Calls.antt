-- The calls of the operations: what a call answered, and what it left in the lent buffer, is what the definitions give. Each is the contract of the
-- operation, for statements about several calls.
use Rattle.std.specs.Prelude.{◌≡◌, List, ℕ, Result}
use Rattle.model.specs.Limits.{limits_of}
use Rattle.model.specs.declared.Limits.{Limits}
use Rattle.model.specs.Answer.{Answer}
use Rattle.model.specs.Case.{Task}
use Rattle.model.specs.Relevance.{Layout}
use Rattle.model.specs.Operations.{Written, run_read, judge_read, relevant_read, write_read, follow_read, search_plans}
use Rattle.model.specs.Merging.{merge}
use Rattle.model.specs.Answers.{plain_answer, run_answer, judge_answer, search_answer}
use Rattle.model.specs.declared.Refusal.{Refusal}
use Rattle.model.specs.declared.Lengths.{Lengths}
use Rattle.model.specs.declared.Outcome.{Outcome}
use Rattle.model.specs.declared.Verdict.{Verdict}
use Rattle.model.specs.declared.Search.{Search}

-- a call with a lent buffer, which holds `after` when it has answered r
abbrev pub Leaves : Written → Result ℕ Refusal → List ℕ → Type 0
Leaves w r after = (plain_answer r ≡ w.answer) × (after ≡ w.buffer)

-- asked of what was read
module _ (R : Answer Task) where
  abbrev pub RunCall : ℕ → Result Outcome Refusal → Type 0
  RunCall s r = run_answer r ≡ run_read R s

  abbrev pub JudgeCall : ℕ → Result Verdict Refusal → Type 0
  JudgeCall grant r = judge_answer r ≡ judge_read R grant

  abbrev pub RelevantCall : Layout → ℕ → List ℕ → Result ℕ Refusal → List ℕ → Type 0
  RelevantCall L s work r after = Leaves (relevant_read L R s work) r after

  module _ (F : Limits) where
    abbrev pub WriteCall : ℕ → List ℕ → Result ℕ Refusal → List ℕ → Type 0
    WriteCall grant out r after = Leaves (write_read F R grant out) r after

    abbrev pub FollowCall : List ℕ → Result ℕ Refusal → Type 0
    FollowCall list r = plain_answer r ≡ follow_read F R list

-- asked of a problem's block
abbrev pub SearchCall : List ℕ → ℕ → ℕ → Result Search Refusal → Type 0
SearchCall problem longest grant r = search_answer r ≡ search_plans (limits_of problem) problem longest grant

-- asked of both halls' blocks
abbrev pub MergeCall : List ℕ → List ℕ → List ℕ → List ℕ → Result Lengths Refusal → List ℕ → List ℕ → Type 0
MergeCall first second before before_table r after after_table =
    let m = merge first second before before_table in
    (plain_answer r ≡ m.answer) × (after ≡ m.out) × (after_table ≡ m.table)
