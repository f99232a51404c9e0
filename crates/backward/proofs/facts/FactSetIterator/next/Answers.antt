use Rattle.std.proofs.Common.{arith}
use Rattle.backward.proofs.Sets.{set-none, first-fact, taken-out, taken-less, one-flipped}
use Rattle.backward.proofs.facts.FactSetIterator.next.Goals as goal

pub returns-then-self-eq0-clause-steps : goal.returns-then-self-eq0-clause-steps
returns-then-self-eq0-clause-steps c = λ f l. rw (c.if-self-eq0.true) (set-none f)

pub returns-clause-steps : goal.returns-clause-steps
returns-clause-steps c =
    let (few, had) = first-fact c.args.self.now.word c.if-self-eq0.false (omega arith) in
    record { few = few; had = had; left = λ g l. rw (one-flipped _ few) (taken-out c.args.self.now.word _ few g l) }

pub returns-clause-goes : goal.returns-clause-goes
returns-clause-goes c =
    let (few, had) = first-fact c.args.self.now.word c.if-self-eq0.false (omega arith) in
    record { on = λ h. (tt, tt, rw (one-flipped _ few) (taken-less c.args.self.now.word _ few had)); keeps = tt; rests = λ h. tt }
