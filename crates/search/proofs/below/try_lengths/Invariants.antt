-- the shorter plans are tried
use Rattle.walk.specs.Tables.{AtFirst}
use Rattle.search.proofs.Alike.{Shorter}
use Rattle.search.proofs.below.try_lengths.Given as goal

abbrev pub invariant-loop-length : goal.invariant-loop-length
invariant-loop-length l = Shorter l.fn.root.problem.now l.longest l.grant l.left l.length × AtFirst l.tables l.fn.root.problem.now.facts
