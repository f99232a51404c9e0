use Rattle.std.proofs.Common.{rules, sym, ◌∙◌}
use Rattle.std.proofs.Output.{has_written_of_eq, has_written_append}
use Rattle.model.specs.Case.{bit}
use Rattle.names.specs.Views.{names}
use Rattle.told.specs.States.{true_facts}
use Rattle.told.proofs.Telling.{facts-told, facts-left}
use Rattle.told.proofs.states.TrueFactsDisplay.fmt.Goals as goal
use Rattle.told.proofs.states.TrueFactsDisplay.fmt.Goals.{then-holds+in_ok-write, else-holds}

pub loop-fact-init : goal.loop-fact-init
unfolding true_facts
loop-fact-init g c = search rules

pub loop-fact-preserved : goal.loop-fact-preserved
loop-fact-preserved g c p =
    let before = c.loop-fact.invariant p in
    let N = names c.args.self.now.0.names in
    let holds = bit c.args.self.now.0.facts.limits.width c.args.self.now.0.state in
    elim c.if-holds.branch [
      | then-holds+in_ok-write w ↦
          rw w.f-is
          (has_written_of_eq _ _ _ _ _
          (facts-told N holds c.loop-fact.fact (sym c.holds.ensures ∙ w.if-holds.true))
          (has_written_append _ _ _ _ _ _ before (w.write.ensures.writes before.plain (search rules))))
      | else-holds w ↦ rw w.f-is (has_written_of_eq _ _ _ _ _ (facts-left N holds c.loop-fact.fact (sym c.holds.ensures ∙ w.if-holds.false)) before)
    ]
