-- each refusal is a case of the definition
use Rattle.std.proofs.Common.{add-zero, le-leb}
use borrow.Author.Tests.{lt-leb}
use Rattle.model.specs.Read.{header, ◌>>◌, and_then, require}
use Rattle.fields.proofs.header.check_room.Goals as goal

pub returns-then-most-len : goal.returns-then-most-len
unfolding header ◌>>◌ and_then require
returns-then-most-len c versions = rw (c.at_byte.ensures, add-zero, lt-leb _ _ c.if-most-len.true)

pub returns-then-len-lt-HEAD_BYTES : goal.returns-then-len-lt-HEAD_BYTES
unfolding header ◌>>◌ and_then require
returns-then-len-lt-HEAD_BYTES c versions =
    rw (c.at_byte-then-len-lt-HEAD_BYTES.ensures, le-leb _ _ c.if-most-len.false, lt-leb _ _ c.if-len-lt-HEAD_BYTES.true)
