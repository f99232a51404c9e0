use Rattle.std.proofs.Common.{sym, ◌∙◌, arith}
use Rattle.make.proofs.Names.{index_of-first, index_of-none}
use Rattle.make.proofs.formulas.index_of.Goals as goal

pub returns-then-eq-clause-value : goal.returns-then-eq-clause-value
returns-then-eq-clause-value c =
    sym (index_of-first c.args.names.now c.args.word.now c.loop-index.index _ c.loop-index-test.true c.loop-index.invariant (sym c.eq.ensures ∙ c.if-eq.true))

pub returns : goal.returns
returns c = record {
  value = sym (index_of-none c.args.names.now c.args.word.now (λ k e l. c.loop-index.invariant k e (omega arith)));
  within = tt;
}
