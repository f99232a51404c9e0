-- the members before this one are put, and the others are to come
use Rattle.std.proofs.Common.{◌≡◌, drop, map}
use Rattle.serde_json.specs.Data.{no_members}
use Rattle.serde_json.specs.View.{members_view}
use Rattle.objects.specs.Objects.{member, put_each}
use Rattle.objects.proofs.members.object.Given as goal

abbrev pub invariant-loop-member : goal.invariant-loop-member
invariant-loop-member l =
    put_each (map member (drop l.member-index l.members)) (members_view l.object.entries) ≡ put_each (map member l.members) no_members
