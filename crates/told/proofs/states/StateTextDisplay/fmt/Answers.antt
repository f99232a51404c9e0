use Rattle.std.proofs.Common.{sym, ◌∙◌}
use Rattle.std.proofs.lemmas.List.{length-map}
use Rattle.told.specs.States.{state_text}
use Rattle.told.proofs.states.StateTextDisplay.fmt.Goals as goal

pub returns-then-is_empty-clause-writes : goal.returns-then-is_empty-clause-writes
unfolding state_text
returns-then-is_empty-clause-writes g c p ok =
    let unnamed = sym c.is_empty.ensures ∙ c.if-is_empty.true in
    rw (length-map c.args.self.now.names.facts.now (λ s. s.now), unnamed) (c.write.ensures.writes p ok)

pub returns-clause-writes : goal.returns-clause-writes
unfolding state_text
returns-clause-writes g c p ok =
    let named = sym c.is_empty.ensures ∙ c.if-is_empty.false in
    rw (length-map c.args.self.now.names.facts.now (λ s. s.now), named) (c.write-2.ensures.writes p ok)
