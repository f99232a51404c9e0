-- each return is a case of `head`
use Rattle.std.proofs.Common.{rules, arith}
use Rattle.model.specs.Marks.{group_of}
use Rattle.formula.proofs.Heads.{head-end, head-repeated, head-unmarked, head-deep, head-cut, head-whole}
use Rattle.formula.proofs.read.Stated.group_at.Goals as goal

pub returns-then-self-at : goal.returns-then-self-at
returns-then-self-at c = head-end _ _ _ _ _ _ c.at_byte-cut.ensures c.if-self-at.true

pub returns-in_default : goal.returns-in_default
returns-in_default c = head-unmarked _ _ _ _ _ _ c.if-self-at.false c.requires c.at_byte.ensures (λ g. c.in_default.ensures (group_of g))

pub returns-then-eq : goal.returns-then-eq
returns-then-eq c = head-repeated _ _ _ _ _ _ c.if-self-at.false c.requires _ c.in-Ok.ensures c.at_byte-then-eq.ensures (search rules)

pub returns-then-left-eq0 : goal.returns-then-left-eq0
returns-then-left-eq0 c =
    head-deep _ _ _ _ _ _ c.if-self-at.false c.requires _ c.in-Ok.ensures (λ e. search rules) c.at_byte-then-left-eq0.ensures c.if-left-eq0.true

pub returns-then-short : goal.returns-then-short
returns-then-short c =
    head-cut _ _ _ _ _ _ c.if-self-at.false c.requires _ c.in-Ok.ensures (λ e. search rules) c.at_byte-cut.ensures (omega arith) (omega arith)

pub returns : goal.returns
returns c = head-whole _ _ _ _ _ _ c.if-self-at.false c.requires _ c.in-Ok.ensures (λ e. search rules) (omega arith) (omega arith)
