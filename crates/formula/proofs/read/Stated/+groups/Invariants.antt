-- The measure is how many more groups may nest; a loop keeps that what is left to read answers for all.
use Rattle.std.proofs.Common.{◌≡◌, ◌-◌}
use Rattle.model.specs.FormulaBytes.{conjunction, disjunction}
use Rattle.formula.specs.Readings.{members_read}
use Rattle.formula.proofs.read.Stated.+groups.Given as goal

abbrev pub decreases-read_all : goal.decreases-read_all
decreases-read_all l = l.left

abbrev pub decreases-read_any : goal.decreases-read_any
decreases-read_any l = l.left

abbrev pub invariant-read_all-loop : goal.invariant-read_all-loop
invariant-read_all-loop l =
    members_read l.self.block.now l.self.end l.self.facts l.left conjunction (l.count - l.counter) l.next ≡
    members_read l.self.block.now l.self.end l.self.facts l.left conjunction l.count l.at

abbrev pub invariant-read_any-loop : goal.invariant-read_any-loop
invariant-read_any-loop l =
    members_read l.self.block.now l.self.end l.self.facts l.left disjunction (l.count - l.counter) l.next ≡
    members_read l.self.block.now l.self.end l.self.facts l.left disjunction l.count l.at
