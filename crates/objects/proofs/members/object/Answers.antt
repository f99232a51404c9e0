use Rattle.std.proofs.Common.{◌≡◌, map, ap, sym, ◌∙◌, rules}
use Rattle.std.proofs.lemmas.List.{at_drop_more, at_drop_all}
use Rattle.serde_json.specs.Data as value
use Rattle.serde_json.specs.View.{view, members_view}
use Rattle.serde_json.specs.declared.value.Value.{Object, the_lemmas}
use Rattle.objects.specs.Objects.{member, put_each}
use Rattle.objects.proofs.members.object.Goals as goal

pub loop-member-preserved : goal.loop-member-preserved
unfolding put_each
loop-member-preserved c =
    let now = members_view c.loop-member.object.entries in
    let next = at_drop_more (λ ms. put_each (map member ms) now) c.args.members.now c.loop-member.member-index c.member-item.result c.loop-member-test.true in
    rw (c.in_ok-put_into.ensures, c.member-item.is) (sym next ∙ c.loop-member.invariant)

pub returns : goal.returns
unfolding put_each
returns c =
    let now = members_view c.loop-member.object.entries in
    let built : view (Object c.loop-member.object) ≡ value.object now = search (rules, the_lemmas) in
    let last = at_drop_all (λ ms. put_each (map member ms) now) c.args.members.now c.loop-member.member-index c.loop-member-test.false in
    built ∙ ap value.object (sym last ∙ c.loop-member.invariant)
