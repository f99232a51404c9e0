-- each answer is a case of the definition
use Rattle.std.proofs.Common.{lt-ltb, le-ltb, le-leb}
use borrow.Author.Tests.{lt-leb}
use Rattle.model.specs.Read.{count, ◌>>=◌, ◌>>◌, position, byte, and_then, require, done}
use Rattle.fields.proofs.header.count_at.Goals as goal
use Rattle.fields.proofs.header.count_at.Goals.{then-n-low-via-then-n-low, then-n-low-via-else-n-low+then-high-n}

pub returns-then-s-at : goal.returns-then-s-at
unfolding count ◌>>=◌ ◌>>◌ position byte and_then
returns-then-s-at c = record { is = rw (c.at_byte.ensures, le-ltb _ _ c.if-s-at.true); bounded = tt; inside = tt }

pub returns-then-n-low : goal.returns-then-n-low
unfolding count ◌>>=◌ ◌>>◌ position byte and_then require
returns-then-n-low c =
    let l = lt-ltb _ _ c.if-s-at.false in
    elim c.then-n-low.branch [
      | then-n-low-via-then-n-low w ↦ record { is = rw (c.at_byte-then-n-low.ensures, l, lt-leb _ _ w.if-n-low.true); bounded = tt; inside = tt }
      | then-n-low-via-else-n-low+then-high-n w ↦
          record { is = rw (c.at_byte-then-n-low.ensures, l, le-leb _ _ w.if-n-low.false, lt-leb _ _ w.if-high-n.true); bounded = tt; inside = tt }
    ]

pub returns : goal.returns
unfolding count ◌>>=◌ ◌>>◌ position byte and_then require done
returns c = record {
  is = rw (lt-ltb _ _ c.if-s-at.false, le-leb _ _ c.if-n-low.false, le-leb _ _ c.if-high-n.false);
  bounded = (c.if-n-low.false, c.if-high-n.false);
  inside = c.if-s-at.false;
}
