-- the steps so far
use Rattle.std.proofs.Common.{◌≡◌, map, take}
use Rattle.serde_json.specs.View.{view}
use Rattle.objects.specs.Objects.{step_numbers}
use Rattle.objects.proofs.members.steps_value.Given as goal

abbrev pub invariant-loop-step : goal.invariant-loop-step
invariant-loop-step l = map view l.steps.items ≡ step_numbers (take l.step-index l.fn.plan)
