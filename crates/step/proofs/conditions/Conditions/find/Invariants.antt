-- the entries before what the iterator has left are held, and passed; and for the next one, entry i may set what it clears
use Rattle.std.proofs.Common.{◌-◌}
use Rattle.fields.specs.Actions.{action, effects}
use Rattle.cases.specs.Cases.{case_of}
use Rattle.step.proofs.Conflicts.{Passed}
use Rattle.step.proofs.Finding.{Searching}
use Rattle.step.proofs.conditions.Conditions.find.Given as goal

abbrev pub invariant-loop-effect : goal.invariant-loop-effect
invariant-loop-effect l = Searching l.action.effects.facts l.cases (action l.action) l.alive l.self (effects l.effect-iterator) l.i l.lanes

abbrev pub invariant-loop-i : goal.invariant-loop-i
invariant-loop-i l = Passed l.action.effects.facts (action l.action) (case_of l.cases) l.alive l.i l.self.count l.lanes

abbrev pub decreases-loop-i : goal.decreases-loop-i
decreases-loop-i l = l.self.count - l.i
