-- while only literals were seen, those that were seen are literals
use Rattle.std.proofs.Common.{◌≡◌, true}
use Rattle.formula.specs.Heads.{AreLiterals}
use Rattle.formula.proofs.read.Stated.has_only_literals.Given as goal

abbrev pub invariant-loop-place : goal.invariant-loop-place
invariant-loop-place l = l.only ≡ true → AreLiterals l.self.block.now l.place l.self.facts l.at
