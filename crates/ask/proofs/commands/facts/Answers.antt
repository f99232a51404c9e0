use Rattle.std.proofs.Common.{◌≡◌, refl, ap, Ok, arith}
use Rattle.reply.specs.About.{FromState}
use Rattle.ask.specs.Commands.{Rests, states_of, rows_buffer}
use Rattle.reply.specs.Views.{given, spoken}
use Rattle.reply.proofs.Speaking.{about-spoken, not-spoken, from-state, from-no-state}
use Rattle.ask.proofs.commands.facts.Goals as goal

pub returns-in_default : goal.returns-in_default
returns-in_default c =
    let t = c.args.telling.now in
    let b = c.args.blocks in
    let marks = c.args.marks.now in
    let s = c.in-Ok.spoken in
    about-spoken t.json (given t) (λ s. FromState t.json s marks (Rests t.json b s)) b.problem.now s _ c.in-Ok.ensures
    (from-no-state t.json s marks c.facts.result.limits c.facts.result.count c.marked_state.result (Rests t.json b (spoken s)) _ c.facts.ensures.limits c.facts.ensures.count c.marked_state.ensures c.in_default.is refl)

pub returns-in_ok-answer_rows-in-Ok : goal.returns-in_ok-answer_rows-in-Ok
unfolding rows_buffer
returns-in_ok-answer_rows-in-Ok c =
    let t = c.args.telling.now in
    let b = c.args.blocks in
    let marks = c.args.marks.now in
    let s = c.in-Ok.spoken in
    let rows = c.ask-answer.new.room in
    let least : c.min-states.result ≡ states_of b.plan.now = omega (arith, c.saturating_sub-states.ensures, c.min-states.ensures) in
    about-spoken t.json (given t) (λ s. FromState t.json s marks (Rests t.json b s)) b.problem.now s _ c.in-Ok.ensures
    (from-state t.json s marks c.facts.result.limits c.facts.result.count c.marked_state.result (Rests t.json b (spoken s)) c.in-Some.state _ c.facts.ensures.limits c.facts.ensures.count c.marked_state.ensures c.in-Some.is
    (c.ask-answer.result, rows, c.ask-answer.ensures, ap Ok (rw least at c.in_ok-answer_rows-in-Ok.ensures)))

pub returns-in-Err : goal.returns-in-Err
returns-in-Err c =
    let t = c.args.telling.now in
    let b = c.args.blocks in
    let marks = c.args.marks.now in
    not-spoken t.json (given t) (λ s. FromState t.json s marks (Rests t.json b s)) b.problem.now c.in-Err.why c.unspoken.result c.in-Err.ensures c.unspoken.ensures
