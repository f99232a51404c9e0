use Rattle.std.proofs.Common.{ap, Ok, option_map}
use Rattle.reply.specs.Views.{given, spoken}
use Rattle.texts.specs.Shown.{Shown}
use Rattle.reply.proofs.Speaking.{about-spoken, not-spoken, gives-weaker}
use Rattle.texts.proofs.Shown.{shown-alone, shown-both, text-shown}
use Rattle.texts.proofs.showing.show.Goals as goal

pub returns-in-Err : goal.returns-in-Err
returns-in-Err c =
    let t = c.args.telling.now in
    not-spoken t.json (given t) (Shown t.json (option_map (λ p. p.now) c.args.plan)) c.args.problem.now c.in-Err.why c.unspoken.result c.in-Err.ensures c.unspoken.ensures

pub returns-in_default : goal.returns-in_default
returns-in_default c =
    let t = c.args.telling.now in
    let s = c.in-Ok.spoken in
    about-spoken t.json (given t) (Shown t.json (option_map (λ p. p.now) c.args.plan)) c.args.problem.now s _ c.in-Ok.ensures
    (shown-alone t.json (spoken s) c.args.plan _ c.in_default.is
    (ap Ok (text-shown t.json _ _ _ c.new-text.ensures.bytes c.in_ok-push_problem.ensures _ c.in_ok-tell.ensures)))

pub returns : goal.returns
returns c =
    let t = c.args.telling.now in
    let s = c.in-Ok.spoken in
    gives-weaker
    (λ x w.
    about-spoken t.json (given t) (Shown t.json (option_map (λ p. p.now) c.args.plan)) c.args.problem.now s x c.in-Ok.ensures
    (shown-both t.json (spoken s) c.args.plan x c.in-Some.plan c.in-Some.is w))
    c.show_both.result c.show_both.ensures
