use Rattle.std.proofs.Common.{◌≡◌, ◌-◌}
use Rattle.model.specs.ListBytes.{lines_from}
use Rattle.model.specs.Read.{head_bytes}
use Rattle.blocks.specs.Values.{task as task_of}
use Rattle.follow.specs.Follows.{end_of_lines}
use Rattle.follow.proofs.Following.{from-line}
use Rattle.follow.proofs.operations.follow_lines_by.Given as goal

abbrev pub invariant-loop-reader : goal.invariant-loop-reader
invariant-loop-reader l =
    (l.follower.task.now ≡ l.fn.task) ×
    (l.reader.list.now ≡ l.list) ×
    (l.reader.limits ≡ l.fn.limits) ×
    (end_of_lines (task_of l.fn.task) (lines_from l.fn.limits l.list l.count head_bytes) ≡ from-line l.fn.limits (task_of l.fn.task) l.list l.count l.reader.line l.follower.covered)

abbrev pub decreases-loop-reader : goal.decreases-loop-reader
decreases-loop-reader l = l.count - l.reader.line
