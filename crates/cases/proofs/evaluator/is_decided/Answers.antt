use Rattle.std.proofs.Common.{eqb-true}
use Rattle.cases.proofs.Lanes.{no-word, yes-word}
use Rattle.cases.proofs.evaluator.is_decided.Goals as goal

pub returns-in-All : goal.returns-in-All
returns-in-All c = λ e j l. rw c.in-All.is (no-word _ c.args.value.sure j (eqb-true _ _ e))

pub returns-in-Any : goal.returns-in-Any
returns-in-Any c = λ e j l. rw c.in-Any.is (yes-word _ _ j (eqb-true _ _ e) l (c.args.value.consistent j l))
