use Rattle.explain.proofs.Counting.{rows-are-states}
use Rattle.explain.proofs.theorem.rows_are_states.Goals as goal

pub returns : goal.returns
returns c = rows-are-states
