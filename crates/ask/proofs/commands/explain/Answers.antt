use Rattle.std.proofs.Common.{refl, ap, Ok}
use Rattle.reply.specs.Views.{given, spoken}
use Rattle.ask.specs.Commands.{Explained}
use Rattle.reply.proofs.Speaking.{about-spoken, not-spoken, gives-weaker}
use Rattle.ask.proofs.Failing.{wrong-explained, others-answered}
use Rattle.ask.proofs.commands.explain.Goals as goal

pub returns-in-Some : goal.returns-in-Some
returns-in-Some c =
    let t = c.args.telling.now in
    let b = c.args.blocks in
    let s = c.in-Ok.spoken in
    let (v, call, is, same) = c.ask-answer.ensures in
    gives-weaker
    (λ x w.
    about-spoken t.json (given t) (Explained t.json b c.args.grant) b.problem.now s x c.in-Ok.ensures (
      c.ask-answer.result,
      (v, call, is, refl),
      wrong-explained t.json (spoken s) b.plan.now c.ask-answer.result c.failing_state.result x c.failing_state.ensures c.in-Some.state c.in-Some.is w,
    ))
    c.explain_state.result c.explain_state.ensures

pub returns-in_ok-answer-in-None : goal.returns-in_ok-answer-in-None
returns-in_ok-answer-in-None c =
    let t = c.args.telling.now in
    let b = c.args.blocks in
    let s = c.in-Ok.spoken in
    let (v, call, is, same) = c.ask-answer.ensures in
    about-spoken t.json (given t) (Explained t.json b c.args.grant) b.problem.now s _ c.in-Ok.ensures (
      c.ask-answer.result,
      (v, call, is, refl),
      others-answered t.json (spoken s) b.plan.now c.ask-answer.result c.failing_state.result _ c.failing_state.ensures c.in-None.is (ap Ok c.in_ok-answer-in-None.ensures),
    )

pub returns-in-Err : goal.returns-in-Err
returns-in-Err c =
    let t = c.args.telling.now in
    let b = c.args.blocks in
    not-spoken t.json (given t) (Explained t.json b c.args.grant) b.problem.now c.in-Err.why c.unspoken.result c.in-Err.ensures c.unspoken.ensures
