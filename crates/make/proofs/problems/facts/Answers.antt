use Rattle.std.proofs.Common.{◌≡◌, length, refl, codes, arith}
use Rattle.make.proofs.Parsing.{wrong_at, passed, returned, unequal}
use Rattle.make.proofs.NameSteps.{facts-all, facts-full, facts-bad, facts-next}
use Rattle.make.proofs.problems.facts.Goals as goal

pub returns-then-ne-clause-read : goal.returns-then-ne-clause-read
returns-then-ne-clause-read c = record {
  value = _;
  read = facts-all _ _ _ _ _ c.word-word.ensures.bytes c.loop-word.invariant (unequal c.word-word.result.bytes.now c.as_slice.result.now (codes "fact") _ _ c.ne.ensures c.if-ne.true c.as_slice.ensures);
  is = refl;
}

pub returns-then-len-most-clause-read : goal.returns-then-len-most-clause-read
returns-then-len-most-clause-read c =
    let full : length c.loop-word.names.items ≡ c.args.most = omega (arith, c.loop-word.names.ok.0) in
    let begins = unequal c.word-word.result.bytes.now c.as_slice.result.now (codes "fact") _ _ c.ne.ensures c.if-ne.false c.as_slice.ensures in
    wrong_at _ _ _ _ _ _ _ (facts-full _ _ _ _ _ c.word-word.ensures.bytes c.loop-word.invariant begins full) c.at.ensures c.word-word.ensures.left

pub returns-in_err-name-clause-read : goal.returns-in_err-name-clause-read
returns-in_err-name-clause-read c =
    let room : length c.loop-word.names.items ≡ c.args.most → ⊥ = omega (arith, c.loop-word.names.ok.0) in
    let begins = unequal c.word-word.result.bytes.now c.as_slice.result.now (codes "fact") _ _ c.ne.ensures c.if-ne.false c.as_slice.ensures in
    rw (returned c.from_residual.result c.from_residual.ensures.1) (passed _ _ _ _ _ _ _ (facts-bad _ _ _ _ _ c.word-word.ensures.bytes c.loop-word.invariant begins room _ _ c.deref.ensures.value c.word-word.ensures.after) c.in_err-name.ensures)

pub loop-word-preserved : goal.loop-word-preserved
loop-word-preserved c =
    let room : length c.loop-word.names.items ≡ c.args.most → ⊥ = omega (arith, c.loop-word.names.ok.0) in
    let begins = unequal c.word-word.result.bytes.now c.as_slice.result.now (codes "fact") _ _ c.ne.ensures c.if-ne.false c.as_slice.ensures in
    rw c.in_ok-push.ensures.items (facts-next _ _ _ _ _ c.word-word.ensures.bytes c.loop-word.invariant begins room _ _ c.deref.ensures.value c.word-word.ensures.after _ _ c.in_ok-name.ensures)
