use Rattle.search.proofs.Beginning.{reached-so}
use Rattle.search.proofs.Trying.{first-looks, right-tried, undecided-tried, wrong-tried}
use Rattle.walk.proofs.Walking.{at-first, first-again}
use Rattle.search.proofs.below.Begun.try_plan.Goals as goal

pub first-block-requires : goal.first-block-requires
first-block-requires c =
    let b = c.args.self.now in
    rw (c.of-task.ensures.is, c.of-task.ensures.problem, c.steps.ensures, c.of.ensures)
    (first-looks b.root.now b.plan _ (reached-so b.root.now b.plan b.alive b.cases.now b.begun _ c.reached_lanes-carries.ensures))

pub walk_block-requires : goal.walk_block-requires
walk_block-requires c =
    let F = c.first-block.ensures in
    at-first _ _ _ F.first F.number F.task (rw c.of-task.ensures.problem c.requires)

pub returns-in-Ok-clause-stands : goal.returns-in-Ok-clause-stands
returns-in-Ok-clause-stands c =
    let F = c.first-block.ensures in
    (rw c.of-task.ensures.problem at (first-again _ _ _ F.first F.number F.task c.in-Ok.ensures.stands))

pub returns-in-Err-OutOfVisits-clause-stands : goal.returns-in-Err-OutOfVisits-clause-stands
returns-in-Err-OutOfVisits-clause-stands c =
    let F = c.first-block.ensures in
    (rw c.of-task.ensures.problem at (first-again _ _ _ F.first F.number F.task c.in-Err-OutOfVisits.ensures.stands))

pub returns-in-Err-Failed-clause-stands : goal.returns-in-Err-Failed-clause-stands
returns-in-Err-Failed-clause-stands c =
    let F = c.first-block.ensures in
    (rw c.of-task.ensures.problem at (first-again _ _ _ F.first F.number F.task c.in-Err-Failed.ensures.stands))

pub returns-in-Ok-clause-comes : goal.returns-in-Ok-clause-comes
returns-in-Ok-clause-comes c =
    right-tried _ _ _ _ (rw (c.first-block.ensures.walk, c.of-task.ensures.is, c.steps.ensures) at c.in-Ok.ensures.walks)

pub returns-in-Err-OutOfVisits-clause-comes : goal.returns-in-Err-OutOfVisits-clause-comes
returns-in-Err-OutOfVisits-clause-comes c =
    undecided-tried _ _ _
    (rw (c.in-Err-OutOfVisits.field-0-is, c.first-block.ensures.walk, c.of-task.ensures.is, c.steps.ensures) at c.in-Err-OutOfVisits.ensures.walks)

pub returns-in-Err-Failed-clause-comes : goal.returns-in-Err-Failed-clause-comes
returns-in-Err-Failed-clause-comes c =
    wrong-tried _ _ _ _ _
    (rw (c.in-Err-Failed.field-0-is, c.first-block.ensures.walk, c.of-task.ensures.is, c.steps.ensures) at c.in-Err-Failed.ensures.walks)
