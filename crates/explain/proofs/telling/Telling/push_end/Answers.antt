use Rattle.std.proofs.Common.{◌≡◌, true, false, ◌∙◌, sym, ap, List, ◌++◌, ℕ, codes, arith}
use Rattle.std.specs.String.{string_bytes}
use Rattle.model.specs.Kleene.{is_yes, three}
use Rattle.model.specs.Run.{holds_in}
use Rattle.blocks.specs.Values.{problem}
use Rattle.cases.specs.Cases.{case_of}
use Rattle.names.specs.Views.{names}
use Rattle.explain.specs.Told.{false_part}
use Rattle.explain.proofs.Ends.{end-reached, end-missed}
use Rattle.explain.proofs.Texts.{last-text, on-ok, on-push}
use Rattle.explain.proofs.telling.Telling.push_end.Goals as goal

pub returns-then-is_yes : goal.returns-then-is_yes
returns-then-is_yes c =
    let p = problem c.args.self.task.now.problem.now in
    let out = string_bytes c.args.out.now in
    let met : holds_in three (case_of c.args.cases.now 0) p.goal ≡ true = sym (ap is_yes (c.evaluate.ensures 0 (omega arith))) ∙ sym c.is_yes.ensures ∙ c.if-is_yes.true in
    on-ok _ _ (ap (λ (t : List ℕ). out ++ t) (end-reached (names c.args.self.names) p c.args.cases.now c.requires met))
    (on-push _ out (codes "end: the goal is reached\n") c.push_str.ensures.bytes)

pub returns : goal.returns
returns c =
    let N = names c.args.self.names in
    let p = problem c.args.self.task.now.problem.now in
    let out = string_bytes c.args.out.now in
    let unmet : holds_in three (case_of c.args.cases.now 0) p.goal ≡ false = sym (ap is_yes (c.evaluate.ensures 0 (omega arith))) ∙ sym c.is_yes.ensures ∙ c.if-is_yes.false in
    last-text _ out (codes "end: the goal is missed, as this is false:\n") (false_part N (holds_in three (case_of c.args.cases.now 0)) p.goal) _
    c.in_ok-push_str.ensures.bytes (ap (λ (t : List ℕ). out ++ t) (end-missed N p c.args.cases.now c.requires unmet)) c.push_false_part.ensures
