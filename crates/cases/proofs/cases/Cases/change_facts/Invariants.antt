-- the facts from the first to f - 1 are what the change makes of them
use Rattle.std.proofs.Common.{min}
use Rattle.cases.specs.Cases.{case_of}
use Rattle.cases.proofs.Facts.{Changes}
use Rattle.cases.proofs.cases.Cases.change_facts.Given as goal

abbrev pub invariant-loop-f : goal.invariant-loop-f
invariant-loop-f g l = Changes (goal.F-post g l.change) l.fn.self.facts (case_of l.fn.self) l.from (min l.to l.fn.self.facts) l.self.facts l.f (case_of l.self)
