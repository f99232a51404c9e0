use Rattle.std.proofs.Common.{◌∙◌, refl, min, arith}
use Rattle.cases.proofs.Lanes.{length-case_in, fact-literal, fact-put, fact-value}
use Rattle.cases.proofs.Facts.{changes-none, changes-more, changes-ends, with_facts-cut}
use Rattle.cases.proofs.cases.Cases.change_facts.Goals as goal

pub put_declared-requires : goal.put_declared-requires
put_declared-requires g c =
    let s = c.loop-f.self in
    rw c.of-fact.ensures (fact-literal s.facts s.few c.loop-f.f (omega (arith, c.loop-f.invariant.same)))

pub loop-f-init : goal.loop-f-init
loop-f-init g c = changes-none

pub loop-f-preserved : goal.loop-f-preserved
loop-f-preserved g c =
    let s = c.loop-f.self in
    changes-more c.value.result c.change-value.result (length-case_in _ _) (omega arith) (omega arith) (omega arith) refl c.loop-f.invariant c.put_declared.ensures.facts
    (λ j l. (rw c.of-fact.ensures at c.value.ensures j l) ∙ fact-value _ _ (omega (arith, s.few)))
    c.change-value.ensures
    (λ j l. (rw c.of-fact.ensures at c.put_declared.ensures.cases j l) ∙ fact-put c.loop-f.f (omega (arith, s.few, c.loop-f.invariant.same)) _ _)

pub returns-clause-facts : goal.returns-clause-facts
returns-clause-facts g c = c.loop-f.invariant.same

pub returns-clause-cases : goal.returns-clause-cases
returns-clause-cases g c =
    let s = c.args.self.now in
    λ t m j l.
    changes-ends (omega arith) c.loop-f.invariant t (λ f v r a b. m f v r a (omega arith)) j l ∙
    with_facts-cut c.args.from (min c.args.to s.facts) c.args.to (t j) _ (omega arith) (λ b. omega (arith, length-case_in s.facts s.words j))
