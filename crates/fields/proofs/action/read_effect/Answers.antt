-- each answer is a case of the definition
use Rattle.std.proofs.Common.{sym, ◌∙◌, lt-ltb, le-ltb}
use borrow.Author.Tests.{lt-leb}
use Rattle.model.specs.Read.{and_then, position, byte, require, ◌>>=◌, ◌>>◌}
use Rattle.model.specs.ProblemBytes.{effect}
use Rattle.fields.proofs.Readers.{effect-formula}
use Rattle.fields.proofs.action.read_effect.Goals as goal

pub returns-then-s-at : goal.returns-then-s-at
unfolding effect ◌>>=◌ ◌>>◌ and_then position byte
returns-then-s-at c = rw (c.at_byte.ensures, le-ltb _ _ c.if-s-at.true)

pub returns-then-not-is_literal : goal.returns-then-not-is_literal
unfolding effect ◌>>=◌ ◌>>◌ and_then position byte require
returns-then-not-is_literal c =
    let k = sym c.is_literal.ensures ∙ c.if-not-is_literal.true in
    rw (c.at_byte-then-not-is_literal.ensures, lt-ltb _ _ c.if-s-at.false, k)

pub returns-then-b-least : goal.returns-then-b-least
unfolding effect ◌>>=◌ ◌>>◌ and_then position byte require
returns-then-b-least c =
    let k = sym c.is_literal.ensures ∙ c.if-not-is_literal.false in
    rw (c.at_byte-then-b-least.ensures, lt-ltb _ _ c.if-s-at.false, k, lt-leb _ _ c.if-b-least.true)

pub returns : goal.returns
returns c =
    let k = sym c.is_literal.ensures ∙ c.if-not-is_literal.false in
    effect-formula _ _ _ _ c.if-s-at.false k c.if-b-least.false _ c.read_formula.ensures
