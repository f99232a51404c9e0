-- What is replied where blocks are made of a text.
use Rattle.std.specs.Prelude.{◌≡◌, Bool, cond, ◌&&◌, List, ℕ, ◌+◌, ◌-◌, length, take, Option, None, Some, is_none, option_map, Result, Ok, Err}
use Rattle.model.specs.ProblemBytes.{encode_problem, encode_plan}
use Rattle.answers.specs.declared.status.Status.TheVariants.{Yes}
use Rattle.make.specs.Parsed.{Parsed, bad, got}
use Rattle.make.specs.SourceText.{Source, source}
use Rattle.objects.specs.Json.{made_json}
use Rattle.texts.specs.Texts.{line_feeds, made_line}
use Rattle.reply.specs.Said.{Said, said}
use Rattle.reply.specs.Replies.{printed}
use Rattle.texts.specs.declared.making.Made.{Made}
use Rattle.reply.specs.declared.unanswered.Unanswered.{Unanswered}
use Rattle.reply.specs.declared.unanswered.Unanswered.TheVariants.{Text, NoPlan, OutOfMemory}

-- a reply, whose file is the block of the problem, and the block of the plan, if there is one
pub record SaidMade : Type 0 where
  pub reply : Said
  pub plan : Option (List ℕ)

abbrev pub said_made : Made → SaidMade
said_made m = record { reply = said m.reply; plan = option_map (λ p. p.items) m.plan }

-- the code replies x, or says why it does not; but memory may run out
abbrev pub GivesMade : Result SaidMade Unanswered → Result Made Unanswered → Type 0
GivesMade x (Ok m) = Ok (said_made m) ≡ x
GivesMade x (Err OutOfMemory) = Unit {0}
GivesMade x (Err e) = Err e ≡ x

module _ (json : Bool) where
  -- as in "made 57 bytes", or `{"answer":"made","length":57}`
  abbrev pub made_text : ℕ → List ℕ
  made_text bytes = printed json (made_line bytes) (made_json bytes)

  module _ (wanted : Bool) where
    -- what is replied with these blocks: where a plan is wanted, there has to be one
    unfoldable pub made_reply : List ℕ → Option (List ℕ) → Result SaidMade Unanswered
    made_reply problem plan =
        cond (wanted && is_none plan)
        (Err NoPlan)
        (Ok (record { reply = record { text = made_text (length problem); status = Yes; refusal = None; file = Some problem }; plan = plan }))

    -- what is wrong is told of its line
    abbrev pub parsed_reply : List ℕ → Parsed Source → Result SaidMade Unanswered
    parsed_reply t (bad c left) = Err (Text c (line_feeds (take (length t - left) t) + 1))
    parsed_reply t (got r rest) = made_reply (encode_problem r.limits r.problem) (option_map encode_plan r.plan)

    -- making: of what a text says
    unfoldable pub made_of : List ℕ → Result SaidMade Unanswered
    made_of t = parsed_reply t (source t)
