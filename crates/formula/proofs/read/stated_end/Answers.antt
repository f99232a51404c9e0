-- each return is a case of `stated`
use Rattle.std.proofs.Common.{arith}
use Rattle.formula.proofs.Lengths.{stated-refuses, stated-none, stated-length, stated-short, stated-whole}
use Rattle.formula.proofs.read.stated_end.Goals as goal

pub returns-then-len-at : goal.returns-then-len-at
returns-then-len-at c = stated-refuses _ _ c.at_byte.ensures (stated-none _ _ (omega (arith, c.then-len-at)))

pub returns-then-n-eq0 : goal.returns-then-n-eq0
returns-then-n-eq0 c =
    stated-refuses _ _ c.at_byte-then-n-eq0.ensures (stated-length _ _ (omega arith) (λ l m. omega (arith, c.then-n-eq0.either)))

pub returns-then-len-begin : goal.returns-then-len-begin
returns-then-len-begin c =
    stated-refuses _ _ c.at_byte-then-len-begin.ensures (stated-short _ _ (omega arith) (omega arith) (omega arith) (omega arith))

pub returns : goal.returns
returns c = record { is = stated-whole _ _ (omega arith) (omega arith) (omega arith) (omega arith); within = (omega arith, omega arith) }
