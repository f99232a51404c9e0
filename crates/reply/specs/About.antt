-- What is replied about a problem, a state of it and a plan beside it, from the bytes of the files and the words of the command line.
use Rattle.std.specs.Prelude.{◌≡◌, Bool, List, ℕ, length, Option, None, Some, Result, Ok, Err}
use Rattle.model.specs.declared.Refusal.{Refusal}
use Rattle.model.specs.declared.Limits.{Limits}
use Rattle.model.specs.Limits.{limits_of}
use Rattle.model.specs.Answers.{plain_answer}
use Rattle.model.specs.ProblemBytes.{Problem, problem_of, plan_of}
use Rattle.names.specs.Names.{Names}
use Rattle.reply.specs.StateMarks.{marked_state}
use Rattle.reply.specs.Spoken.{names_for, Spoken}
use Rattle.reply.specs.Said.{Said}
use Rattle.reply.specs.Replies.{Replied, refused_reply}
use Rattle.reply.specs.declared.unanswered.Unanswered.TheVariants.{Marks, OtherNames}

module _ (json : Bool) where
  -- what is replied of the state with these marks: the marks have to be those of a state
  abbrev pub AtState : Spoken → Option ℕ → (ℕ → Replied → Type 0) → Replied → Type 0
  AtState s None K x = x ≡ Err (Marks s.problem.facts)
  AtState s (Some n) K x = K n x

  abbrev pub FromState : Spoken → List ℕ → (ℕ → Replied → Type 0) → Replied → Type 0
  FromState s marks = AtState s (marked_state s.limits.width s.problem.facts marks)

  -- what is replied with the steps of the plan in a block: it may be refused
  abbrev pub with_steps : Result (List ℕ) Refusal → (List ℕ → Said) → Said
  with_steps (Err r) K = refused_reply json r
  with_steps (Ok steps) K = K steps

  unfoldable pub WithPlan : Spoken → List ℕ → (List ℕ → Said) → Replied → Type 0
  WithPlan s plan K x =
      (steps : Result (List ℕ) Refusal) × (plain_answer steps ≡ plan_of plan (length s.problem.actions)) × (x ≡ Ok (with_steps steps K))

  module _ (given : Option Names) where
    -- what is replied about a problem that was read so: that it is refused, that the names given are not as many as its facts and
    -- actions, and else what K says of it in its names
    abbrev pub InNames : Limits → Problem → Option Names → (Spoken → Replied → Type 0) → Replied → Type 0
    InNames F p None K x = x ≡ Err OtherNames
    InNames F p (Some N) K x = K (record { names = N; limits = F; problem = p }) x

    abbrev pub AboutRead : Limits → Result Problem Refusal → (Spoken → Replied → Type 0) → Replied → Type 0
    AboutRead F (Err r) K x = x ≡ Ok (refused_reply json r)
    AboutRead F (Ok p) K x = InNames F p (names_for given p) K x

    unfoldable pub About : List ℕ → (Spoken → Replied → Type 0) → Replied → Type 0
    About block K x = (p : Result Problem Refusal) × (plain_answer p ≡ problem_of (limits_of block) block) × AboutRead (limits_of block) p K x
