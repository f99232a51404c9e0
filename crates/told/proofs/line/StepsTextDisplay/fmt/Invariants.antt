-- the steps so far
use Rattle.std.proofs.Common.{take}
use Rattle.std.specs.Fmt.{HasWritten, IsPlainFormatter}
use Rattle.names.specs.Views.{names}
use Rattle.told.specs.AnswerText.{steps_text}
use Rattle.told.proofs.line.StepsTextDisplay.fmt.Given as goal

abbrev pub invariant-loop-step : goal.invariant-loop-step
invariant-loop-step g l =
    IsPlainFormatter l.initial.f → HasWritten g.W.Write.write_str_gives l.initial.f (steps_text (names l.self.names) (take l.step-index l.self.plan)) l.f
