use Rattle.std.proofs.Common.{◌∙◌, ap, rules, refl, arith}
use Rattle.model.specs.Answer.{answered}
use Rattle.judge.proofs.Verdicts.{judge-refused, judge-found}
use Rattle.blocks.proofs.Tasks.{read_task-refused, read_task-from}
use Rattle.desk.proofs.Paging.{refused-text, judged-text}
use Rattle.desk.proofs.judging.judge_blocks.Goals as goal

pub returns-in-Err : goal.returns-in-Err
returns-in-Err c =
    let r = c.refused.ensures in
    let read = read_task-refused _ _ c.args.plan.now _ c.in-Err.ensures.read in
    record {
      room = rw (r.limits, c.of-limits.ensures) c.requires;
      text = rw r.answer (refused-text c.refused.result.facts.limits c.refused.result.facts.count c.args.problem.now c.args.plan.now c.args.list.now _ read);
      answer = rw r.answer (judge-refused _ _ read _);
    }

pub returns-in-Err-plan : goal.returns-in-Err-plan
returns-in-Err-plan c =
    let r = c.refused-in-Err-plan.ensures in
    let read = read_task-from _ _ c.args.plan.now c.in-Ok.ensures.read c.in-Ok.ensures.limits c.in-Err-plan.ensures.read in
    record {
      room = rw (r.limits, c.of-limits.ensures) c.requires;
      text = rw r.answer (refused-text c.refused-in-Err-plan.result.facts.limits c.refused-in-Err-plan.result.facts.count c.args.problem.now c.args.plan.now c.args.list.now _ read);
      answer = rw r.answer (judge-refused _ _ read _);
    }

pub returns : goal.returns
returns c =
    let read = read_task-from _ _ c.args.plan.now c.in-Ok.ensures.read c.in-Ok.ensures.limits c.in-Ok-plan.ensures.read in
    let same = c.judge_task-verdict.ensures.put.same in
    record {
      room = rw c.in-Ok.ensures.limits (omega (arith, c.requires));
      text =
          judged-text c.args.problem.now c.args.plan.now _ (omega (arith, c.requires)) c.in-Ok-plan.task _ c.in-Ok-plan.ensures.problem c.in-Ok.ensures.limits read _ _ _ c.judge_task-verdict.ensures refl
          (search rules);
      answer = ap answered c.judge_task-verdict.ensures.answer ∙ judge-found _ _ read _;
    }
