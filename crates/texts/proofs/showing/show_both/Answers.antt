use Rattle.std.proofs.Common.{Ok, Err, ap}
use Rattle.reply.specs.About.{WithPlan}
use Rattle.texts.proofs.Shown.{texts-shown}
use Rattle.texts.proofs.showing.show_both.Goals as goal

pub returns-in-Err : goal.returns-in-Err
unfolding WithPlan
returns-in-Err c = (Err c.in-Err.refusal, c.in-Err.ensures.steps, ap Ok c.in_ok-refuse-in-Err.ensures)

pub returns : goal.returns
unfolding WithPlan
returns c = (
  Ok c.in-Ok.task.steps.now,
  c.in-Ok.ensures.steps,
  ap Ok (texts-shown c.args.telling.now.json _ _ _ c.new-text.ensures.bytes c.in_ok-push_problem.ensures _ _ _ c.in_ok-push_plan.ensures c.in_ok-tell.ensures),
)
