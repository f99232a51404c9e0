use Rattle.std.proofs.Common.{map, ap, ◌∙◌}
use Rattle.std.proofs.lemmas.Result.{IfOk-weaker}
use Rattle.serde_json.specs.Written.{compact_text, has_float}
use Rattle.objects.specs.Objects.{member, written}
use Rattle.objects.proofs.Writing.{object-exact}
use Rattle.objects.proofs.members.write_object.Goals as goal

pub returns : goal.returns
unfolding written
returns c =
    let built = c.in_ok-object.ensures in
    let exact = object-exact (map member c.args.members.now) in
    IfOk-weaker c.to_string.result _ _ (λ s text. text (ap has_float built ∙ exact) ∙ ap compact_text built) c.to_string.ensures.text
