use Rattle.std.proofs.Common.{ap, Ok}
use Rattle.reply.specs.Views.{given}
use Rattle.ask.specs.Commands.{Writes, list_buffer}
use Rattle.reply.proofs.Speaking.{about-spoken, not-spoken}
use Rattle.ask.proofs.commands.write.Goals as goal

pub returns-in_ok-answer_with-in-Ok : goal.returns-in_ok-answer_with-in-Ok
unfolding list_buffer
returns-in_ok-answer_with-in-Ok c =
    let t = c.args.telling.now in
    let b = c.args.blocks in
    about-spoken t.json (given t) (Writes t.json b c.args.grant) b.problem.now c.in-Ok.spoken _ c.in-Ok.ensures
    (c.ask_into-answer.result, c.ask_into-answer.new.bytes.items, rw c.in_ok-list-in-Ok.ensures at c.ask_into-answer.ensures, ap Ok (rw c.written_file-file.ensures at c.in_ok-answer_with-in-Ok.ensures))

pub returns-in-Err : goal.returns-in-Err
returns-in-Err c =
    let t = c.args.telling.now in
    let b = c.args.blocks in
    not-spoken t.json (given t) (Writes t.json b c.args.grant) b.problem.now c.in-Err.why c.unspoken.result c.in-Err.ensures c.unspoken.ensures
