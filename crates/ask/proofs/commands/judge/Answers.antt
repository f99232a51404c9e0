use Rattle.std.proofs.Common.{refl, ap, Ok}
use Rattle.ask.specs.declared.question.Question.TheVariants.{Judge}
use Rattle.reply.specs.Views.{given}
use Rattle.ask.specs.Commands.{Answers}
use Rattle.reply.proofs.Speaking.{about-spoken, not-spoken}
use Rattle.ask.proofs.commands.judge.Goals as goal

pub returns-in_ok-answer-in-Ok : goal.returns-in_ok-answer-in-Ok
returns-in_ok-answer-in-Ok c =
    let t = c.args.telling.now in
    let b = c.args.blocks in
    let (v, call, is, same) = c.ask-answer.ensures in
    about-spoken t.json (given t) (Answers t.json (Judge b c.args.grant)) b.problem.now c.in-Ok.spoken _ c.in-Ok.ensures
    (c.ask-answer.result, (v, call, is, refl), ap Ok c.in_ok-answer-in-Ok.ensures)

pub returns-in-Err : goal.returns-in-Err
returns-in-Err c =
    let t = c.args.telling.now in
    let b = c.args.blocks in
    not-spoken t.json (given t) (Answers t.json (Judge b c.args.grant)) b.problem.now c.in-Err.why c.unspoken.result c.in-Err.ensures c.unspoken.ensures
