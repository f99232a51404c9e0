-- Why a command has no reply: the status that the program exits with, and what is said of it.
use Rattle.std.specs.Prelude.{List, ℕ, ◌++◌, codes, decimal}
use Rattle.answers.specs.declared.status.Status.{Status}
use Rattle.answers.specs.declared.status.Status.TheVariants.{Malformed, Unwritten, Usage}
use Rattle.names.specs.declared.lists.NamesError.{NamesError}
use Rattle.names.specs.declared.lists.NamesError.TheVariants.{BadName as IsBadName, OutOfMemory as IsOutOfMemory}
use Rattle.words.specs.Complaints.{complaint_words}
use Rattle.reply.specs.declared.unanswered.Unanswered.{Unanswered}
use Rattle.reply.specs.declared.unanswered.Unanswered.TheVariants.{Marks, Text, NoPlan, BadName, OtherNames, OutOfMemory}

abbrev pub unanswered_status : Unanswered → Status
unanswered_status (Marks facts) = Usage
unanswered_status (Text c line) = Malformed
unanswered_status NoPlan = Malformed
unanswered_status BadName = Malformed
unanswered_status OtherNames = Malformed
unanswered_status OutOfMemory = Unwritten

abbrev pub unanswered_words : Unanswered → List ℕ
unanswered_words (Marks facts) = codes "state: " ++ (decimal facts ++ codes " marks are wanted, a 0 or a 1 for each fact")
unanswered_words (Text c line) = codes "text: line " ++ (decimal line ++ (codes ": " ++ complaint_words c))
unanswered_words NoPlan = codes "text: it has no plan"
unanswered_words BadName = codes "names: a name is missing, is given twice, has more than 255 bytes, or is no name"
unanswered_words OtherNames = codes "names: there are not as many as the problem has facts and actions"
unanswered_words OutOfMemory = codes "out of memory"

-- why no names were read
abbrev pub unnamed : NamesError → Unanswered
unnamed IsBadName = BadName
unnamed IsOutOfMemory = OutOfMemory
