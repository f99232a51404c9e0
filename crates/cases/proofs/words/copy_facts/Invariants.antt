-- The words of the facts before this one are copied.
use Rattle.cases.proofs.Copying.{Copied}
use Rattle.cases.proofs.words.copy_facts.Given as goal

abbrev pub invariant-loop-fact : goal.invariant-loop-fact
invariant-loop-fact l = Copied l.fact l.fn.words l.from l.words
