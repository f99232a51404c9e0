use Rattle.std.proofs.Common.{sym, ap, List, ◌++◌, ℕ, codes, arith}
use Rattle.std.specs.String.{string_bytes}
use Rattle.model.specs.Kleene.{three}
use Rattle.model.specs.Action.{exclusive}
use Rattle.model.specs.Run.{holds_in}
use Rattle.blocks.specs.Values.{problem}
use Rattle.fields.specs.Actions.{action}
use Rattle.cases.specs.Cases.{case_of}
use Rattle.names.specs.Views.{names}
use Rattle.explain.specs.Told.{false_part}
use Rattle.explain.proofs.Known.{lowest-few}
use Rattle.explain.proofs.Ends.{block-unmet, block-conflict}
use Rattle.explain.proofs.Texts.{last-text, on-ok}
use Rattle.explain.proofs.telling.Telling.push_block.Goals as goal

pub overflow_cast-name : goal.overflow_cast-name
overflow_cast-name c =
    let is = rw c.in-Conflict.is at c.requires.hinders in
    let few = lowest-few c.args.cases.now.facts (exclusive three (action c.args.action) (case_of c.args.cases.now 0)) in
    omega (arith, few, is.1, c.args.cases.now.few)

pub returns-in_ok-push_str-in-Precondition : goal.returns-in_ok-push_str-in-Precondition
returns-in_ok-push_str-in-Precondition c =
    let N = names c.args.self.names in
    let out = string_bytes c.args.out.now in
    let a = action c.args.action in
    let unmet = rw c.in-Precondition.is at c.requires.hinders in
    let text = block-unmet N (problem c.args.self.task.now.problem.now) c.args.cases.now c.requires.known a unmet in
    last-text _ out (codes " blocked, as this is false:\n") (false_part N (holds_in three (case_of c.args.cases.now 0)) a.precondition) _
    c.in_ok-push_str-in-Precondition.ensures.bytes (ap (λ (t : List ℕ). out ++ t) text) c.push_false_part.ensures

pub returns-in-Conflict : goal.returns-in-Conflict
returns-in-Conflict c =
    let N = names c.args.self.names in
    let is = rw c.in-Conflict.is at c.requires.hinders in
    let text = block-conflict N (problem c.args.self.task.now.problem.now) c.args.cases.now c.requires.known (action c.args.action) (sym c.requires.facts) c.in-Conflict.fact is.0 is.1 in
    on-ok _ _ (ap (λ (t : List ℕ). string_bytes c.args.out.now ++ t) text) c.writeln.ensures.bytes
