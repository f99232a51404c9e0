-- the tests are those of the definition, in its order
use Rattle.std.proofs.Common.{sym, ◌∙◌, le-leb, eq-eqb, ne_eqb}
use Rattle.model.specs.Read.{of_version, header, ◌>>◌, and_then, require}
use Rattle.model.specs.ListBytes.{of_the_problem}
use Rattle.fields.specs.Headers.{length_read}
use Rattle.fields.proofs.header.check_list_header.Goals as goal

pub returns-then-not-is_version : goal.returns-then-not-is_version
unfolding header of_the_problem ◌>>◌ and_then require
returns-then-not-is_version c =
    let (most, room) = c.in_ok-check_room.ensures in
    rw (c.at_byte.ensures, le-leb _ _ most, le-leb _ _ room, sym c.is_version.ensures ∙ c.if-not-is_version.true)

pub returns-then-s-limits : goal.returns-then-s-limits
unfolding header of_the_problem of_version length_read ◌>>◌ and_then require
returns-then-s-limits c =
    let (most, room) = c.in_ok-check_room.ensures in
    let known = sym c.is_version.ensures ∙ c.if-not-is_version.false in
    rw (c.at_byte-then-s-limits.ensures, le-leb _ _ most, le-leb _ _ room, known, ne_eqb _ _ c.if-s-limits.true)

pub returns : goal.returns
unfolding header of_the_problem of_version length_read ◌>>◌ and_then require
returns c =
    let (most, room) = c.in_ok-check_room.ensures in
    rw (c.check_length.ensures, le-leb _ _ most, le-leb _ _ room, sym c.is_version.ensures ∙ c.if-not-is_version.false, eq-eqb _ _ c.if-s-limits.false)
