-- the marks so far
use Rattle.std.proofs.Common.{◌≡◌, take, length}
use Rattle.model.specs.DeskText.{marks}
use Rattle.answers.proofs.marks.Marks.bytes.Given as goal

abbrev pub invariant-loop-fact : goal.invariant-loop-fact
invariant-loop-fact l = (length l.bytes ≡ 64) × (take l.fact l.bytes ≡ marks l.self.facts.limits.width l.fact l.self.k l.self.value)
