use Rattle.std.proofs.Common.{◌∙◌, arith}
use Rattle.model.proofs.Laws.Planes.{bit-zero}
use Rattle.runs.proofs.Running.{goal-reached}
use Rattle.runs.proofs.lanes.reached_lanes.Goals as goal

pub returns-then-alive-eq0 : goal.returns-then-alive-eq0
returns-then-alive-eq0 c = λ j l. bit-zero j ∙ rw (c.if-alive-eq0.true, bit-zero j) (omega arith)

pub returns : goal.returns
returns c = goal-reached _ c.args.cases.now c.evaluate.result c.evaluate.ensures _
