-- The measure is how many more groups may stand in one another.
use Rattle.std.proofs.Common.{◌+◌, ◌-◌, ◌*◌}
use Rattle.model.specs.FormulaBytes.{mark}
use Rattle.model.specs.Marks.{group_of}
use Rattle.make.specs.FormulaText.{item}
use Rattle.make.specs.Views.{fact_names}
use Rattle.make.proofs.Members.{ReadSoFar}
use Rattle.make.proofs.formulas.FactNames.+formulas.Given as goal

abbrev pub decreases-item : goal.decreases-item
decreases-item l = 3 * l.left

abbrev pub decreases-members : goal.decreases-members
decreases-members l = 3 * l.left + 1

abbrev pub decreases-group : goal.decreases-group
decreases-group l = 3 * l.left + 2

abbrev pub decreases-members-loop-group : goal.decreases-members-loop-group
decreases-members-loop-group l = 255 - l.members.count

abbrev pub invariant-members-loop-group : goal.invariant-members-loop-group
invariant-members-loop-group l =
    ReadSoFar (fact_names l.self) (item (fact_names l.self) l.left (mark (group_of l.group))) l.fn.text.bytes.now l.text.bytes.now l.members
