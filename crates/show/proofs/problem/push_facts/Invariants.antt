-- What is written, and then the facts left, is the whole text.
use Rattle.std.proofs.Common.{◌≡◌, ◌++◌, ◌-◌}
use Rattle.std.specs.String.{string_bytes}
use Rattle.names.specs.Views.{names as names_of}
use Rattle.names.specs.ProblemText.{facts_text}
use Rattle.show.proofs.problem.push_facts.Given as goal

abbrev pub invariant-loop-fact : goal.invariant-loop-fact
invariant-loop-fact l =
    let N = names_of l.names in
    string_bytes l.out ++ facts_text N l.fact (l.count - l.fact) ≡ string_bytes l.fn.out ++ facts_text N 0 l.count
