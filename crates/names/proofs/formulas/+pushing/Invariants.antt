-- Each call has fewer formulas to write, or as many and goes on with them. The loop has written all but what is left.
use Rattle.std.proofs.Common.{◌≡◌, ◌++◌, string_bytes, ◌+◌, ◌*◌, ◌≤◌}
use Rattle.formula.specs.Views.{formulas, members, after_group}
use Rattle.formula.proofs.Sizes.{sizes}
use Rattle.names.specs.Texts.{members_text}
use Rattle.names.specs.Views.{names}
use Rattle.names.proofs.formulas.+pushing.Given as goal

abbrev pub decreases-push_first : goal.decreases-push_first
decreases-push_first l = 2 * sizes (formulas l.formulas)

abbrev pub decreases-push_members : goal.decreases-push_members
decreases-push_members l = 2 * sizes (formulas l.members.formulas) + 1

abbrev pub invariant-push_members-loop-left : goal.invariant-push_members-loop-left
invariant-push_members-loop-left l =
    let N = names l.names in
    (string_bytes l.out ++ members_text N (members l.left) ≡ string_bytes l.initial.out ++ members_text N (members l.members)) ×
    (after_group l.left ≡ after_group l.members) ×
    (sizes (formulas l.left.formulas) ≤ sizes (formulas l.members.formulas))

abbrev pub decreases-push_members-loop-left : goal.decreases-push_members-loop-left
decreases-push_members-loop-left l = l.left.count
