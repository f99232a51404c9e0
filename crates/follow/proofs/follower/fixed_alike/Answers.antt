use Rattle.std.proofs.Common.{arith}
use Rattle.follow.proofs.Lines.{alike-bits}
use Rattle.follow.proofs.follower.fixed_alike.Goals as goal

pub returns-then-from-past : goal.returns-then-from-past
returns-then-from-past c =
    record { first = omega arith; second = omega arith; alike = λ f l. alike-bits _ _ _ f (omega arith) c.if-from-past.true l }
