use Rattle.std.proofs.Common.{sym, ap, ◌∙◌, arith}
use lib.ListN.{get_or-map}
use Rattle.model.specs.Kleene.{is_yes, No}
use Rattle.model.proofs.Laws.Planes.{literal-fact}
use Rattle.cases.specs.Cases.{case_of}
use Rattle.explain.proofs.steps.is_true.Goals as goal

pub returns : goal.returns
returns c =
    c.is_yes.ensures ∙ ap is_yes (c.value.ensures 0 (omega arith)) ∙ rw (c.of.ensures, literal-fact c.args.fact (omega (arith, c.requires, c.args.cases.now.few)))
    (sym (get_or-map is_yes (case_of c.args.cases.now 0) c.args.fact No))
