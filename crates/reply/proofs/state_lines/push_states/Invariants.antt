-- What is written, and then the states left, is the whole text; and each state left has its row.
use Rattle.std.proofs.Common.{◌≡◌, ◌≤◌, ◌*◌, ◌-◌, ◌++◌, length}
use Rattle.std.specs.String.{string_bytes}
use Rattle.names.specs.Views.{names as names_of}
use Rattle.reply.specs.StateLines.{states_text}
use Rattle.reply.proofs.state_lines.push_states.Given as goal

abbrev pub invariant-loop-number : goal.invariant-loop-number
invariant-loop-number l =
    let N = names_of l.names in
    let F = l.facts.limits in
    let n = l.facts.count in
    (string_bytes l.out ++ states_text N F n l.number-counter (l.count - l.number-counter) l.left ≡ string_bytes l.fn.out ++ states_text N F n 0 l.count l.rows) ×
    (n * (l.count - l.number-counter) ≤ length l.left)
