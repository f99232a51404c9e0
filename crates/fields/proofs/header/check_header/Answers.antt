-- the tests are those of the definition, in its order
use Rattle.std.proofs.Common.{le-leb, eq-eqb, ne_eqb}
use Rattle.model.specs.Read.{of_version, header, ◌>>◌, and_then, require}
use Rattle.fields.specs.Headers.{length_read}
use Rattle.fields.proofs.header.check_header.Goals as goal

pub returns-then-s-version : goal.returns-then-s-version
unfolding header of_version length_read ◌>>◌ and_then require
returns-then-s-version c =
    let (most, room) = c.in_ok-check_room.ensures in
    rw (c.at_byte.ensures, le-leb _ _ most, le-leb _ _ room, ne_eqb _ _ c.if-s-version.true)

pub returns : goal.returns
unfolding header of_version length_read ◌>>◌ and_then require
returns c =
    let (most, room) = c.in_ok-check_room.ensures in
    rw (c.check_length.ensures, le-leb _ _ most, le-leb _ _ room, eq-eqb _ _ c.if-s-version.false)
