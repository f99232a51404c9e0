use Rattle.std.proofs.Common.{arith}
use Rattle.cases.specs.Cases.{case_of}
use Rattle.cases.proofs.Evaluating.{literal-alone, empty-alone}
use Rattle.cases.proofs.evaluator.evaluate.Goals as goal

pub returns-in-Literal : goal.returns-in-Literal
returns-in-Literal c = literal-alone (case_of c.args.cases.now) _ c.alone.ensures c.in-Literal.ensures c.value.ensures

pub returns-in-Group : goal.returns-in-Group
returns-in-Group c =
    let g = c.in-Group in
    empty-alone (case_of c.args.cases.now) g.members (omega arith) c.alone.ensures g.ensures c.unit.ensures
