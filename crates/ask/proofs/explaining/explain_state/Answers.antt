use Rattle.std.proofs.Common.{Ok, Err, ap}
use Rattle.names.specs.Views.{names}
use Rattle.reply.specs.About.{WithPlan}
use Rattle.ask.proofs.FailingRun.{run-explained, run-refused}
use Rattle.ask.proofs.explaining.explain_state.Goals as goal

pub returns-in-Err : goal.returns-in-Err
unfolding WithPlan
returns-in-Err c = (Err c.in-Err.refusal, c.in-Err.ensures.steps, ap Ok c.in_ok-refuse-in-Err.ensures)

pub returns-in-Ok-push_explanation : goal.returns-in-Ok-push_explanation
unfolding WithPlan
returns-in-Ok-push_explanation c =
    let t = c.in-Ok.task in (
      Ok t.steps.now,
      c.in-Ok.ensures.steps,
      ap Ok (run-explained c.args.telling.now.json c.args.spoken.now t c.args.state _ _ _ c.in-Ok.ensures.problem c.new-text.ensures.bytes c.in-Ok-push_explanation.ensures c.in_ok-tell-in-Ok-push_explanation.ensures),
    )

pub returns-in-Err-Refused : goal.returns-in-Err-Refused
unfolding WithPlan
returns-in-Err-Refused c =
    let t = c.in-Ok.task in (
      Ok t.steps.now,
      c.in-Ok.ensures.steps,
      ap Ok (run-refused c.args.telling.now.json c.args.spoken.now t c.args.state (names c.args.spoken.now.names) _ _ c.in-Err-Refused.refusal _ c.in-Ok.ensures.problem (rw c.in-Err-Refused.field-0-is at c.in-Err-Refused.ensures) c.in_ok-refuse-in-Err-Refused.ensures),
    )
