-- The case in a lane of a block, and the walk from it.
use Rattle.std.specs.Prelude.{◌≡◌, ℕ, ◌+◌, ◌-◌, ◌*◌, ◌^◌}
use Rattle.model.specs.declared.Limits.{Limits}
use Rattle.model.specs.Case as model
use Rattle.model.specs.Planes.{lane_bit}
use Rattle.model.specs.Walk.{Look, Walked, walk_from, look_at}
use Rattle.blocks.specs.Values.{task}
use Rattle.runs.specs.Looks.{look_bits}
use Rattle.walk.specs.declared.block.Block.{Block}
use Rattle.walk.specs.declared.case.Case.{Case}
use Rattle.walk.specs.declared.tables.Tables.{Tables}
use Rattle.walk.specs.Tables.{facts_of, StandsAt}

-- the task that is walked, and the numbers of its version
abbrev pub task_of : Block → model.Task
task_of b = task b.task.now

abbrev pub limits_of : Block → Limits
limits_of b = b.task.now.problem.now.limits

-- what a visit finds of a lane's case
abbrev pub look_in : Block → ℕ → Look
look_in b lane = look_bits (lane_bit lane b.looks.empty) (lane_bit lane b.looks.carries)

-- the case of a lane of level e: each of them covers as many numbers, and they go by their numbers
abbrev pub case_at : Block → ℕ → ℕ → Case
case_at b e lane =
    record {
      k = b.own.k + e;
      number = b.own.number + (lane - 2 ^ e) * 2 ^ ((task_of b).width - (b.own.k + e));
    }

-- the walk from (k, v), with d facts still open
abbrev pub walk_of : model.Task → ℕ → ℕ → ℕ → Walked
walk_of T d k v = walk_from T.width (look_at T) d (look_at T k v) k v

-- the walk from a lane's case
abbrev pub walk_at : Block → ℕ → ℕ → Walked
walk_at b e lane = let case = case_at b e lane in walk_of (task_of b) (b.task.now.problem.now.facts - case.k) case.k case.number

-- the tables stand at the block's own case
pub record At (t : Tables) (b : Block) : Type 0 where
  pub facts : facts_of t ≡ b.task.now.problem.now.facts
  pub stands : StandsAt t (model.case_of (task_of b).width b.task.now.problem.now.facts b.own.k b.own.number)
