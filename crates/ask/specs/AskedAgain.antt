-- What is replied to a command that is given again with a larger grant.
use Rattle.std.specs.Prelude.{◌≡◌, ◌≢◌, Bool, ℕ, Option, Ok, Err}
use Rattle.names.specs.Names.{Names}
use Rattle.answers.specs.declared.status.Status.TheVariants.{Undecided}
use Rattle.reply.specs.Replies.{Replied}
use Rattle.ask.specs.Commands.{JudgeReply, WriteReply, SearchReply, ExplainReply}
use Rattle.ask.specs.declared.question.Blocks.{Blocks}

-- every reply but one with the status of what is undecided
abbrev pub IsDecided : Replied → Type 0
IsDecided (Ok s) = s.status ≢ Undecided
IsDecided (Err e) = Unit {0}

-- the same reply, with its status and every byte of its text and its file, unless the first one is undecided
abbrev pub Stays : (ℕ → Replied → Type 0) → ℕ → ℕ → Type 0
Stays Command grant larger = (first second : Replied) → Command grant first → Command larger second → IsDecided first → second ≡ first

-- each command that takes a grant
pub record AskedAgain (json : Bool) (given : Option Names) (b : Blocks) (grant larger : ℕ) : Type 0 where
  pub judge : Stays (JudgeReply json given b) grant larger
  pub write : Stays (WriteReply json given b) grant larger
  pub explain : Stays (ExplainReply json given b) grant larger
  pub search : (longest : ℕ) → Stays (SearchReply json given b.problem longest) grant larger
