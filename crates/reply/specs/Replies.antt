-- What is replied to each command, from the bytes of its files and the words and numbers of its command line.
use Rattle.std.specs.Prelude.{Bool, cond, List, [], ◌∷◌, ◌++◌, ℕ, Option, None, Some, Result, Ok, Err}
use Rattle.model.specs.declared.Refusal.{Refusal}
use Rattle.told.specs.AnswerText.{refused_line, told}
use Rattle.objects.specs.Json.{json_text}
use Rattle.answers.specs.Status.{status_of}
use Rattle.answers.specs.declared.answer.Answer.{Answer}
use Rattle.answers.specs.declared.status.Status.{Status}
use Rattle.objects.specs.Text.{text_json}
use Rattle.reply.specs.StateLines.{states_text}
use Rattle.reply.specs.Spoken.{Spoken}
use Rattle.reply.specs.Said.{Said}
use Rattle.reply.specs.declared.telling.Unspoken.{Unspoken}
use Rattle.reply.specs.declared.telling.Unspoken.TheVariants.{Refused, OtherNames as IsOtherNames}
use Rattle.reply.specs.declared.unanswered.Unanswered.{Unanswered}
use Rattle.reply.specs.declared.unanswered.Unanswered.TheVariants.{OtherNames}

-- what may be replied, or why there is no reply
abbrev pub Replied : Type 0
Replied = Result Said Unanswered

-- with the bytes of a file that is written, if one is
abbrev pub with_file : Option (List ℕ) → Said → Said
with_file f s = record { text = s.text; status = s.status; refusal = s.refusal; file = f }

module _ (json : Bool) where
  -- what is printed: as it stands, or as JSON on a line
  unfoldable pub printed : List ℕ → List ℕ → List ℕ
  printed text object = cond json (object ++ (10 ∷ [])) text

  abbrev pub printed_text : List ℕ → List ℕ
  printed_text t = printed t (text_json t)

  abbrev pub text_reply : List ℕ → Status → Said
  text_reply t status = record { text = printed_text t; status = status; refusal = None; file = None }

  -- what is replied to what is refused
  abbrev pub refused_reply : Refusal → Said
  refused_reply r = record { text = printed (refused_line r) (json_text (Err r)); status = status_of (Err r); refusal = Some r; file = None }

  -- what is replied to what an operation answered
  abbrev pub answered_reply : Spoken → Result Answer Refusal → Said
  answered_reply s (Ok a) =
      record { text = printed (told s.names s.limits s.problem.facts (Ok a)) (json_text (Ok a)); status = status_of (Ok a); refusal = None; file = None }
  answered_reply s (Err r) = refused_reply r

  -- what is replied where a problem is not spoken of
  abbrev pub unspoken_reply : Unspoken → Replied
  unspoken_reply (Refused r) = Ok (refused_reply r)
  unspoken_reply IsOtherNames = Err OtherNames

  -- in words the first states of a run, so many, follow an answer
  abbrev pub rest_reply : Spoken → ℕ → List ℕ → Result Answer Refusal → Said
  rest_reply s count rows (Err r) = refused_reply r
  rest_reply s count rows (Ok a) =
      record {
        text = printed (told s.names s.limits s.problem.facts (Ok a) ++ states_text s.names s.limits s.problem.facts 0 count rows) (json_text (Ok a));
        status = status_of (Ok a);
        refusal = None;
        file = None;
      }
