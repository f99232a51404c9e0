-- The status that the program exits with, where the page was printed.
use Rattle.std.specs.Prelude.{Bool, cond, ◌||◌, ◌&&◌, not, is_none}
use Rattle.answers.specs.declared.status.Status.{Status}
use Rattle.answers.specs.declared.status.Status.TheVariants.{Unwritten, Usage}
use Rattle.desk.specs.declared.lacks.Lacks.{Lacks}
use Rattle.desk.specs.Unread.{is_unread}

abbrev pub has_files : Lacks → Bool
has_files l = is_none l.problem && is_none l.plan

-- a file that cannot be read goes before a command line that is wrong, and both go before the judge's answer
abbrev pub status_with : Lacks → Status → Status
status_with l answer = cond (is_unread l.problem || is_unread l.plan) Unwritten (cond (l.more || not (has_files l)) Usage answer)
