use Rattle.model.proofs.Laws.Planes.{bit-small}
use Rattle.cases.proofs.Lanes.{known-bits}
use Rattle.cases.proofs.value.Value.known.Goals as goal

pub returns : goal.returns
returns c = λ j l. known-bits _ (bit-small j c.args.yes)
