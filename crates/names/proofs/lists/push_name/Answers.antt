use Rattle.std.proofs.Common.{sym, ◌∙◌}
use Rattle.names.proofs.Distinct.{new-name, not-printed, repeated}
use Rattle.names.proofs.lists.push_name.Goals as goal

pub returns-in_default-clause-bad : goal.returns-in_default-clause-bad
returns-in_default-clause-bad c = λ _. not-printed _ _ c.in_default.ensures.cases.0

pub returns-then-contains-clause-bad : goal.returns-then-contains-clause-bad
returns-then-contains-clause-bad c =
    λ _. repeated c.args.names.now.items c.args.word.now (rw (c.deref.ensures.value, c.in-Ok.ensures.cases.0) at (sym c.contains.ensures.value ∙ c.if-contains.true))

pub returns-clause-new : goal.returns-clause-new
returns-clause-new c =
    let absent = rw (c.deref.ensures.value, c.in-Ok.ensures.cases.0) at (sym c.contains.ensures.value ∙ c.if-contains.false) in
    new-name c.args.names.now.items c.args.word.now (sym c.is_name.ensures ∙ c.if-not-is_name.false) c.in-Ok.ensures.cases.1 absent
