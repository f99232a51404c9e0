-- What an answer of writing a list promises, and every byte of the buffer with it. Then what the answers of writing and of following promise
-- together, of calls of which nothing is known but the contracts. A list is any bytes of any length.
use Rattle.std.specs.Prelude.{◌≡◌, ◌⊎◌, List, ℕ, ◌≤◌, length, take, drop, Result}
use Rattle.model.specs.declared.Limits.{Limits}
use Rattle.model.specs.Answer.{Answer, refused, answered}
use Rattle.model.specs.Case.{Task, Right}
use Rattle.model.specs.Walk.{Line, covered, visits, walked}
use Rattle.model.specs.ListBytes.{encode_list}
use Rattle.model.specs.Operations.{list_bytes}
use Rattle.model.specs.Guarantees.{lines_in, Passing, ClosesWithin, NotWritten}
use Rattle.model.specs.Answers.{plain_answer}
use Rattle.model.specs.Calls.{WriteCall, FollowCall}
use Rattle.model.specs.declared.Refusal.{Refusal}

module _ (F : Limits) where
  -- the length m was answered: the list of the walk's lines stands in the buffer's first m bytes and passes, and the rest is unchanged
  pub record Writes (T : Task) (grant m : ℕ) (before after : List ℕ) : Type 0 where
    pub is_right : Right T
    pub lines : List Line
    pub closes : ClosesWithin T grant lines
    pub size : m ≡ list_bytes F (length lines)
    pub fits : m ≤ length before
    pub passes : Passing F T (take m after) lines
    pub rest : drop m after ≡ drop m before

  module _ (R : Answer Task) where
    -- A refusal changes no byte. It has the number and the place of the reading; or of why the list of what was read is not written: too small a
    -- grant, a plan that is not right, too many lines, too short a buffer.
    abbrev pub WritePromised : ℕ → List ℕ → Answer ℕ → List ℕ → Type 0
    WritePromised grant before (refused n q) after =
        (after ≡ before) × ((R ≡ refused n q) ⊎ ((T : Task) × (R ≡ answered T) × NotWritten F T grant (length before) n q))
    WritePromised grant before (answered m) after = (T : Task) × (R ≡ answered T) × Writes T grant m before after

    pub record Promised : Type 0 where
      -- whatever its bytes are, that a list passes shows that the plan is right; the count is of the lines in its own bytes
      pub passes_only_right :
          (list : List ℕ) (r : Result ℕ Refusal) (m : ℕ) → FollowCall R F list r → plain_answer r ≡ answered m →
          (T : Task) × (R ≡ answered T) × Right T × (m ≡ lines_in F list)
      -- for a right plan the walk closes with some lines; where the visits suffice and neither 52 nor 53 is met, then that list is the one
      -- written: its length is the answer, and the buffer up to it is its block
      pub writes_walk :
          (T : Task) → R ≡ answered T → Right T →
          (lines : List Line) × (walked T ≡ covered lines (visits (walked T))) ×
          ((grant : ℕ) (out : List ℕ) (w : Result ℕ Refusal) (after : List ℕ) → WriteCall R F grant out w after →
          visits (walked T) ≤ grant → length lines ≤ F.lines → list_bytes F (length lines) ≤ length out →
          (plain_answer w ≡ answered (list_bytes F (length lines))) ×
          (take (list_bytes F (length lines)) after ≡ encode_list F lines))
      -- the list that was written passes: the buffer up to the returned length, with the same task
      pub written_passes :
          (grant : ℕ) (out : List ℕ) (w : Result ℕ Refusal) (after : List ℕ) (n : ℕ) → WriteCall R F grant out w after →
          plain_answer w ≡ answered n → (r : Result ℕ Refusal) → FollowCall R F (take n after) r →
          plain_answer r ≡ answered (lines_in F (take n after))
      -- no list that passes is shorter
      pub written_least :
          (grant : ℕ) (out : List ℕ) (w : Result ℕ Refusal) (after : List ℕ) (n : ℕ) → WriteCall R F grant out w after →
          plain_answer w ≡ answered n → (list : List ℕ) (r : Result ℕ Refusal) (m : ℕ) → FollowCall R F list r →
          plain_answer r ≡ answered m → lines_in F (take n after) ≤ lines_in F list
