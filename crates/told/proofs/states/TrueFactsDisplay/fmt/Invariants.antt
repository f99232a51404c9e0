-- the facts so far
use Rattle.std.specs.Fmt.{HasWritten, IsPlainFormatter}
use Rattle.model.specs.Case.{bit}
use Rattle.names.specs.Views.{names}
use Rattle.told.specs.States.{true_facts}
use Rattle.told.proofs.states.TrueFactsDisplay.fmt.Given as goal

abbrev pub invariant-loop-fact : goal.invariant-loop-fact
invariant-loop-fact g l =
    IsPlainFormatter l.initial.f →
    HasWritten g.W.Write.write_str_gives l.initial.f
    (true_facts (names l.self.0.names) (bit l.self.0.facts.limits.width l.self.0.state) 0 l.fact)
    l.f
