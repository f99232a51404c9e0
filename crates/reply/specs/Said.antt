-- What a reply says.
use Rattle.std.specs.Prelude.{◌≡◌, List, ℕ, Option, option_map, Result, Ok, Err}
use Rattle.std.specs.String.{string_bytes}
use Rattle.model.specs.declared.Refusal.{Refusal}
use Rattle.answers.specs.declared.status.Status.{Status}
use Rattle.reply.specs.declared.replies.Reply.{Reply}
use Rattle.reply.specs.declared.unanswered.Unanswered.{Unanswered}
use Rattle.reply.specs.declared.unanswered.Unanswered.TheVariants.{OutOfMemory}

-- what is printed, the status that the program exits with, the refusal whose words are told too, and the bytes of a file that is written
pub record Said : Type 0 where
  pub text : List ℕ
  pub status : Status
  pub refusal : Option Refusal
  pub file : Option (List ℕ)

abbrev pub said : Reply → Said
said r = record { text = string_bytes r.text; status = r.status; refusal = r.refusal; file = option_map (λ f. f.items) r.file }

-- replies: what the code replies, or why it does not, is what is to be replied; but memory may run out
abbrev pub Gives : (Result Said Unanswered → Type 0) → Result Reply Unanswered → Type 0
Gives P (Ok r) = P (Ok (said r))
Gives P (Err OutOfMemory) = Unit {0}
Gives P (Err e) = P (Err e)

abbrev pub Is : Result Said Unanswered → Result Said Unanswered → Type 0
Is x y = y ≡ x
