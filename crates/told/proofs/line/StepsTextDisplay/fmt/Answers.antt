use Rattle.std.proofs.Common.{rules, ap, length, arith}
use Rattle.std.proofs.Output.{has_written_of_eq, has_written_append}
use Rattle.names.specs.Views.{names}
use Rattle.told.specs.AnswerText.{steps_text}
use Rattle.told.proofs.Telling.{steps-more}
use Rattle.told.proofs.line.StepsTextDisplay.fmt.Goals as goal

pub loop-step-init : goal.loop-step-init
unfolding steps_text
loop-step-init g c = search rules

pub loop-step-preserved : goal.loop-step-preserved
loop-step-preserved g c p =
    has_written_of_eq _ _ _ _ _
    (steps-more (names c.args.self.now.names) c.args.self.now.plan c.steps-step-items.result.now c.loop-step.step-index _ c.steps-step-items.ensures (omega (arith, ap length c.steps-step-items.ensures)))
    (has_written_append _ _ _ _ _ _ (c.loop-step.invariant p) (c.write.ensures.writes (c.loop-step.invariant p).plain (search rules)))
