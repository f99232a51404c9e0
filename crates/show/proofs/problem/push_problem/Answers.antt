use Rattle.blocks.specs.Values.{problem as problem_of}
use Rattle.names.specs.Views.{names as names_of}
use Rattle.names.proofs.Pieces.{all-left, next-piece, last-piece}
use Rattle.show.proofs.Lines.{problem-pieces}
use Rattle.show.proofs.problem.push_problem.Goals as goal

pub returns : goal.returns
returns c =
    let p = c.args.problem.now in
    let begun = all-left _ _ _ (problem-pieces (names_of c.args.names) p.limits (problem_of p)) in
    let version = next-piece _ _ _ _ _ begun c.in_ok-writeln.ensures.bytes in
    let facts = next-piece _ _ _ _ _ version c.in_ok-push_facts.ensures in
    let start = next-piece _ _ _ _ _ facts c.in_ok-push_str.ensures.bytes in
    let initial = next-piece _ _ _ _ _ start c.in_ok-push_formula.ensures in
    let wanted = next-piece _ _ _ _ _ initial c.in_ok-push_str-2.ensures.bytes in
    let named = next-piece _ _ _ _ _ wanted c.in_ok-push_formula-2.ensures in
    let ended = next-piece _ _ _ _ _ named c.in_ok-push_str-3.ensures.bytes in
    last-piece c.push_actions.result _ _ _ _ ended c.push_actions.ensures
