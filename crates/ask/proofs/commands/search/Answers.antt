use Rattle.std.proofs.Common.{refl, ap, Ok}
use Rattle.reply.specs.Views.{given}
use Rattle.ask.specs.Commands.{Finds}
use Rattle.reply.proofs.Speaking.{about-spoken, not-spoken}
use Rattle.ask.proofs.commands.search.Goals as goal

pub returns-in_ok-answer_with-in-Ok : goal.returns-in_ok-answer_with-in-Ok
returns-in_ok-answer_with-in-Ok c =
    let t = c.args.telling.now in
    let problem = c.args.problem in
    let (v, call, is, same) = c.ask-answer.ensures in
    about-spoken t.json (given t) (Finds t.json problem c.args.longest c.args.grant) problem.now c.in-Ok.spoken _ c.in-Ok.ensures
    (c.ask-answer.result, (v, call, is, refl), ap Ok (rw c.in_ok-file-in-Ok.ensures at c.in_ok-answer_with-in-Ok.ensures))

pub returns-in-Err : goal.returns-in-Err
returns-in-Err c =
    let t = c.args.telling.now in
    let problem = c.args.problem in
    not-spoken t.json (given t) (Finds t.json problem c.args.longest c.args.grant) problem.now c.in-Err.why c.unspoken.result c.in-Err.ensures c.unspoken.ensures
