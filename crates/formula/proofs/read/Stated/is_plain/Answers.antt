-- the two plain forms
use Rattle.std.proofs.Common.{◌-◌, sym, arith, eqb-true}
use Rattle.formula.proofs.Plain.{plain-literal, plain-group}
use Rattle.formula.proofs.read.Stated.is_plain.Goals as goal

pub returns-then-has_literal : goal.returns-then-has_literal
returns-then-has_literal c = λ e. plain-literal _ _ _ _ c.if-has_literal.ensures (omega (arith, eqb-true (c.args.self.end - c.args.at) 1 e))

pub returns : goal.returns
returns c = λ e. plain-group _ _ _ _ (sym c.if-has_literal.ensures) _ c.in-Ok.ensures (omega arith) (c.has_only_literals.ensures e)
