-- the first i members are looked at, and the others are to come
use Rattle.std.proofs.Common.{◌≡◌, ◌++◌, ◌-◌, ◌≤◌}
use Rattle.std.specs.String.{string_bytes}
use Rattle.model.specs.Kleene.{three}
use Rattle.model.specs.Run.{holds_in}
use Rattle.model.specs.FormulaBytes.{member_count}
use Rattle.formula.specs.Decoding.{first}
use Rattle.formula.specs.Views.{formulas, members}
use Rattle.cases.specs.Cases.{case_of}
use Rattle.names.specs.Views.{names as names_of}
use Rattle.explain.specs.Told.{false_members}
use Rattle.explain.proofs.formulas.push_false_members.Given as goal

abbrev pub invariant-loop : goal.invariant-loop
invariant-loop l =
    let text = false_members (names_of l.names) (holds_in three (case_of l.cases 0)) in
    (l.members.count - l.counter ≤ member_count (formulas l.rest)) ×
    (string_bytes l.out ++ text (first (l.members.count - l.counter) (formulas l.rest)) ≡ string_bytes l.initial.out ++ text (members l.members))
