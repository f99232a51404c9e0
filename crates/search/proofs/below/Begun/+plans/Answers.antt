use Rattle.std.proofs.Common.{◌≡◌, ◌≤◌, arith}
use Rattle.search.proofs.Beginning.{begun-next}
use Rattle.search.proofs.Alike.{tried-none, tried-ended, tried-one, tried-all, leaf-tried}
use Rattle.formula.proofs.Readers.{returned}
use Rattle.search.proofs.below.Begun.+plans.Goals as goal

pub try_below-returns-then-more-eq0-clause-comes : goal.try_below-returns-then-more-eq0-clause-comes
try_below-returns-then-more-eq0-clause-comes t c = leaf-tried _ _ _ _ _ c.if-more-eq0.true c.try_plan.ensures.comes

pub try_below-loop-step-init : goal.try_below-loop-step-init
try_below-loop-step-init t c = (tried-none _ _ _ _ _ (omega arith), c.requires.stands)

pub try_below-returns-in_err-rest-clause-comes : goal.try_below-returns-in_err-rest-clause-comes
try_below-returns-in_err-rest-clause-comes t c =
    rw (returned c.from_residual.result c.from_residual.ensures.1) (tried-ended _ _ _ _ _ _ _ c.loop-step.invariant.0 (omega arith) _ c.in_err-rest.ensures.comes)

pub try_below-loop-step-preserved : goal.try_below-loop-step-preserved
try_below-loop-step-preserved t c =
    (tried-one _ _ _ _ _ _ _ c.loop-step.invariant.0 (omega arith) _ c.in_ok-rest.ensures.comes, c.in_ok-rest.ensures.stands)

pub try_below-returns-clause-comes : goal.try_below-returns-clause-comes
try_below-returns-clause-comes t c = tried-all _ _ _ _ _ _ _ c.loop-step.invariant.0 (omega arith)

-- ---- try_obeyed

pub try_obeyed-invariant_of-next : goal.try_obeyed-invariant_of-next
try_obeyed-invariant_of-next t c =
    let b = c.args.self.now in
    let few : c.get-action.result.effects.facts ≤ b.cases.now.facts = omega (arith, c.get-action.ensures.facts, b.begun.facts) in
    record {
      begun =
          begun-next b.root.now b.plan b.alive b.cases.now b.begun c.args.step c.requires.action (λ (z : b.alive ≡ 0). omega arith) _ c.get-action.ensures.is _ c.obey.ensures.facts _ (c.obey.ensures.obeys few)
          _ c.extended.ensures _ c.unwrap_or-going.ensures;
    }
