use Rattle.walk.proofs.Walking.{first-looked, at-first, looked-first}
use Rattle.walk.proofs.visits.walk_task.Goals as goal

pub first-requires : goal.first-requires
first-requires g c = first-looked c.args.task.now c.first-tables.result c.first-tables.ensures _ _ (c.first_levels.ensures.is c.args.task.now.problem.now.some_facts) c.look-looks.ensures.looks

pub walk_block-requires : goal.walk_block-requires
walk_block-requires g c =
    at-first c.args.task.now _ _ c.first.ensures.first c.first.ensures.number c.first.ensures.task
    (looked-first _ _ _ c.look-looks.ensures.stands c.first-tables.ensures)
