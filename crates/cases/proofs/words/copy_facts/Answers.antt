use Rattle.std.proofs.Common.{arith}
use Rattle.cases.proofs.Copying.{copied-none, copied-next, copies-facts}
use Rattle.cases.proofs.words.copy_facts.Goals as goal

pub loop-fact-init : goal.loop-fact-init
loop-fact-init c = copied-none _ _ c.told-words

pub loop-fact-preserved : goal.loop-fact-preserved
loop-fact-preserved c = copied-next c.loop-fact.fact _ _ _ (omega (arith, c.requires)) c.loop-fact.invariant

pub returns : goal.returns
returns c = copies-facts _ _ _ _ _ c.requires (omega arith) c.loop-fact.invariant
