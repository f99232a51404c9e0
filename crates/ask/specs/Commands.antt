-- What is replied to each command that asks a question, from the bytes of its files and the words and numbers of its command line.
use Rattle.std.specs.Prelude.{◌≡◌, Bool, List, [], ℕ, ◌+◌, ◌-◌, length, take, min, replicate, Option, None, Some, Result, Ok}
use Rattle.std.specs.Borrow.{Bor}
use Rattle.model.specs.declared.Refusal.{Refusal}
use Rattle.model.specs.declared.Verdict.{Verdict}
use Rattle.model.specs.declared.Verdict.TheVariants.{Wrong}
use Rattle.model.specs.declared.Search.{Search}
use Rattle.model.specs.declared.Search.TheVariants.{Found}
use Rattle.model.specs.Limits.{max_steps}
use Rattle.model.specs.Read.{head_bytes}
use Rattle.model.specs.ProblemBytes.{encode_plan}
use Rattle.names.specs.Names.{Names}
use Rattle.answers.specs.declared.answer.Answer.{Answer}
use Rattle.answers.specs.declared.answer.Answer.TheVariants.{Judged, Written, Searched}
use Rattle.reply.specs.Spoken.{Spoken}
use Rattle.reply.specs.Replies.{Replied, with_file, answered_reply, rest_reply}
use Rattle.reply.specs.About.{FromState, WithPlan, About}
use Rattle.ask.specs.Explained.{explained_reply}
use Rattle.ask.specs.Asked.{Asked}
use Rattle.ask.specs.declared.question.Blocks.{Blocks}
use Rattle.ask.specs.declared.question.Question.{Question}
use Rattle.ask.specs.declared.question.Question.TheVariants.{Judge, Write, Follow, Run, Rest, Search as Searches}

-- the files that go with answers: a list in the first bytes of a buffer, and the block of the plan that a search found
abbrev pub written_file : Result Answer Refusal → List ℕ → Option (List ℕ)
written_file (Ok (Written n)) buffer = Some (take n buffer)
written_file r buffer = None

abbrev pub found_file : Search → Option (List ℕ)
found_file (Found p visits) = Some (encode_plan p)
found_file s = None

abbrev pub searched_file : Result Answer Refusal → Option (List ℕ)
searched_file (Ok (Searched s)) = found_file s
searched_file r = None

-- the state at which a plan is wrong, if it is
abbrev pub wrong_at : Verdict → Option ℕ
wrong_at (Wrong s o visits) = Some s
wrong_at v = None

abbrev pub failing_state : Result Answer Refusal → Option ℕ
failing_state (Ok (Judged v)) = wrong_at v
failing_state r = None

-- the buffers that are lent: a list has at most 65,535 bytes, and a run of 256 steps 257 states of at most 64 facts
unfoldable pub list_buffer : List ℕ
list_buffer = replicate 65535 0

unfoldable pub rows_buffer : List ℕ
rows_buffer = replicate 16448 0

-- how many states the run of a plan has that takes each step
abbrev pub states_of : List ℕ → ℕ
states_of plan = min (length plan - head_bytes + 1) (max_steps + 1)

module _ (json : Bool) where
  -- what is replied to a question that lends no buffer
  abbrev pub Answers : Question → Spoken → Replied → Type 0
  Answers q s x = (r : Result Answer Refusal) × Asked q [] r [] × (x ≡ Ok (answered_reply json s r))

  -- to the question whose buffer takes the list, which is the file
  abbrev pub Writes : Blocks → ℕ → Spoken → Replied → Type 0
  Writes b grant s x =
      (r : Result Answer Refusal) × (buffer : List ℕ) × Asked (Write b grant) list_buffer r buffer ×
      (x ≡ Ok (with_file (written_file r buffer) (answered_reply json s r)))

  -- to the one whose buffer takes the states of a run
  abbrev pub Rests : Blocks → Spoken → ℕ → Replied → Type 0
  Rests b s n x =
      (r : Result Answer Refusal) × (rows : List ℕ) × Asked (Rest b n) rows_buffer r rows × (x ≡ Ok (rest_reply json s (states_of b.plan.now) rows r))

  -- to a search: the plan that it found is the file
  abbrev pub Finds : Bor (List ℕ) → ℕ → ℕ → Spoken → Replied → Type 0
  Finds problem longest grant s x =
      (r : Result Answer Refusal) × Asked (Searches problem longest grant) [] r [] × (x ≡ Ok (with_file (searched_file r) (answered_reply json s r)))

  -- where the plan is wrong at a state, its run
  abbrev pub Explains : Spoken → List ℕ → Result Answer Refusal → Option ℕ → Replied → Type 0
  Explains s plan r None x = x ≡ Ok (answered_reply json s r)
  Explains s plan r (Some n) x = WithPlan json s plan (explained_reply json s n) x

  -- by what the judge says
  abbrev pub Explained : Blocks → ℕ → Spoken → Replied → Type 0
  Explained b grant s x = (r : Result Answer Refusal) × Asked (Judge b grant) [] r [] × Explains s b.plan.now r (failing_state r) x

  module _ (given : Option Names) where
    -- the commands: what the judge says of a plan
    abbrev pub JudgeReply : Blocks → ℕ → Replied → Type 0
    JudgeReply b grant = About json given b.problem.now (Answers (Judge b grant))

    -- the list that shows that it is right
    abbrev pub WriteReply : Blocks → ℕ → Replied → Type 0
    WriteReply b grant = About json given b.problem.now (Writes b grant)

    -- what a list shows
    abbrev pub FollowReply : Blocks → Bor (List ℕ) → Replied → Type 0
    FollowReply b list = About json given b.problem.now (Answers (Follow b list))

    -- how the run of a state ends
    abbrev pub RunReply : Blocks → List ℕ → Replied → Type 0
    RunReply b marks = About json given b.problem.now (λ s. FromState json s marks (λ n. Answers (Run b n) s))

    -- on which start facts it rests
    abbrev pub FactsReply : Blocks → List ℕ → Replied → Type 0
    FactsReply b marks = About json given b.problem.now (λ s. FromState json s marks (Rests b s))

    -- the first right plan
    abbrev pub SearchReply : Bor (List ℕ) → ℕ → ℕ → Replied → Type 0
    SearchReply problem longest grant = About json given problem.now (Finds problem longest grant)

    -- how a plan is wrong
    abbrev pub ExplainReply : Blocks → ℕ → Replied → Type 0
    ExplainReply b grant = About json given b.problem.now (Explained b grant)
