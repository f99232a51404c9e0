-- The line at which a reader or a cursor stands.
use Rattle.std.specs.Prelude.{◌+◌, ◌*◌, ◌≤◌, length}
use Rattle.model.specs.Read.{head_bytes}
use Rattle.model.specs.Walk as model
use Rattle.model.specs.ListBytes.{line_at}
use Rattle.lines.specs.declared.reader.ListCursor.{ListCursor}
use Rattle.lines.specs.declared.reader.ListReader.{ListReader}

-- a whole line stands there: the reader is not at the list's end
abbrev pub LineStands : ListReader → Type 0
LineStands r = head_bytes + r.limits.line * r.line + r.limits.line ≤ length r.list.now

abbrev pub line_here : ListReader → model.Line
line_here r = line_at r.limits r.list.now (head_bytes + r.limits.line * r.line)

-- a whole line stands there: the cursor is neither at the list's end nor past it
abbrev pub CursorStands : ListCursor → Type 0
CursorStands c = head_bytes + c.limits.line * c.line + c.limits.line ≤ length c.list.now

abbrev pub line_under : ListCursor → model.Line
line_under c = line_at c.limits c.list.now (head_bytes + c.limits.line * c.line)

-- the place of a reader
abbrev pub cursor_of : ListReader → ListCursor
cursor_of r = record { list = r.list; line = r.line; limits = r.limits }
