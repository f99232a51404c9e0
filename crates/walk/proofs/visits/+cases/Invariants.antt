-- A block below leaves fewer facts open; and each turn of the loop makes a visit at least.
use Rattle.std.proofs.Common.{◌+◌, ◌-◌, ◌*◌}
use Rattle.walk.specs.Nodes.{limits_of, At}
use Rattle.walk.proofs.Walking.{Going}
use Rattle.walk.proofs.visits.+cases.Given as goal

abbrev pub decreases-walk_block : goal.decreases-walk_block
decreases-walk_block g l = 3 * (l.block.now.task.now.problem.now.facts - l.block.now.own.k) + 2

abbrev pub decreases-walk_lane : goal.decreases-walk_lane
decreases-walk_lane g l = 3 * (l.block.now.task.now.problem.now.facts - l.block.now.own.k) + 1

abbrev pub decreases-walk_below : goal.decreases-walk_below
decreases-walk_below g l = 3 * (l.block.now.task.now.problem.now.facts - l.block.now.own.k)

abbrev pub invariant-walk_block-lanes : goal.invariant-walk_block-lanes
invariant-walk_block-lanes g l = Going (g.L.Lines.gives (limits_of l.block)) l.block l.grant l.initial.lines l.lane l.count l.left l.lines × At l.tables l.block

abbrev pub decreases-walk_block-lanes : goal.decreases-walk_block-lanes
decreases-walk_block-lanes g l = l.left
