-- The status that the program exits with where a command has no answer, and what is said of it.
use Rattle.std.specs.Prelude.{List, ℕ, ◌++◌, codes, Option, Some, None}
use Rattle.answers.specs.declared.status.Status.{Status}
use Rattle.answers.specs.declared.status.Status.TheVariants.{Malformed, Unwritten, Usage}
use Rattle.files.specs.Roles.{role_name}
use Rattle.reply.specs.Unanswered.{unanswered_status, unanswered_words}
use Rattle.reply.specs.declared.failure.Failure.{Failure}
use Rattle.reply.specs.declared.failure.Failure.TheVariants.{WordNoText, NoCommand, File, Output, LongText, OneFile, NoReply, OutOfMemory}

abbrev pub failure_status : Failure → Status
failure_status WordNoText = Usage
failure_status NoCommand = Usage
failure_status (File role kind) = Unwritten
failure_status (Output kind) = Unwritten
failure_status (LongText role) = Malformed
failure_status (OneFile written other) = Usage
failure_status (NoReply why) = unanswered_status why
failure_status OutOfMemory = Unwritten

-- what is said; where a call of the system failed, its kind of error has words of the system library's
abbrev pub failure_words : Failure → Option (List ℕ)
failure_words WordNoText = Some (codes "a word of the command line is no UTF-8 text")
failure_words NoCommand = Some (codes "the command line has no whole command")
failure_words (File role kind) = None
failure_words (Output kind) = None
failure_words (LongText role) = Some (role_name role ++ codes ": it is longer than such a text may be")
failure_words (OneFile written other) = Some (role_name written ++ (codes ": it would be written over the " ++ role_name other))
failure_words (NoReply why) = Some (unanswered_words why)
failure_words OutOfMemory = Some (codes "out of memory")
