use Rattle.std.proofs.Common.{refl, ap, Ok}
use Rattle.ask.specs.declared.question.Question.TheVariants.{Run}
use Rattle.reply.specs.About.{FromState}
use Rattle.ask.specs.Commands.{Answers}
use Rattle.reply.specs.Views.{given, spoken}
use Rattle.reply.proofs.Speaking.{about-spoken, not-spoken, from-state, from-no-state}
use Rattle.ask.proofs.commands.run.Goals as goal

pub returns-in_default : goal.returns-in_default
returns-in_default c =
    let t = c.args.telling.now in
    let b = c.args.blocks in
    let marks = c.args.marks.now in
    let s = c.in-Ok.spoken in
    about-spoken t.json (given t) (λ s. FromState t.json s marks (λ n. Answers t.json (Run b n) s)) b.problem.now s _ c.in-Ok.ensures
    (from-no-state t.json s marks c.facts.result.limits c.facts.result.count c.marked_state.result (λ n. Answers t.json (Run b n) (spoken s)) _ c.facts.ensures.limits c.facts.ensures.count c.marked_state.ensures c.in_default.is refl)

pub returns-in_ok-answer-in-Ok : goal.returns-in_ok-answer-in-Ok
returns-in_ok-answer-in-Ok c =
    let t = c.args.telling.now in
    let b = c.args.blocks in
    let marks = c.args.marks.now in
    let s = c.in-Ok.spoken in
    let (v, call, is, same) = c.ask-answer.ensures in
    about-spoken t.json (given t) (λ s. FromState t.json s marks (λ n. Answers t.json (Run b n) s)) b.problem.now s _ c.in-Ok.ensures
    (from-state t.json s marks c.facts.result.limits c.facts.result.count c.marked_state.result (λ n. Answers t.json (Run b n) (spoken s)) c.in-Some.state _ c.facts.ensures.limits c.facts.ensures.count c.marked_state.ensures c.in-Some.is
    (c.ask-answer.result, (v, call, is, refl), ap Ok c.in_ok-answer-in-Ok.ensures))

pub returns-in-Err : goal.returns-in-Err
returns-in-Err c =
    let t = c.args.telling.now in
    let b = c.args.blocks in
    let marks = c.args.marks.now in
    not-spoken t.json (given t) (λ s. FromState t.json s marks (λ n. Answers t.json (Run b n) s)) b.problem.now c.in-Err.why c.unspoken.result c.in-Err.ensures c.unspoken.ensures
