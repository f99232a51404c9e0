use Rattle.std.proofs.Common.{sym, arith}
use Rattle.cases.proofs.Lanes.{length-case_in, literal-by-fact, put-past}
use Rattle.cases.proofs.cases.Cases.put.Goals as goal

pub put_declared-requires : goal.put_declared-requires
put_declared-requires c = let s = c.args.self.now in literal-by-fact s.facts s.few c.args.literal.byte (omega (arith, c.fact.ensures.is))

pub returns-else-fact-self-clause-cases : goal.returns-else-fact-self-clause-cases
returns-else-fact-self-clause-cases c =
    let s = c.args.self.now in
    λ j l. sym (put-past _ _ _ (omega (arith, length-case_in s.facts s.words j, c.fact.ensures.is)))
