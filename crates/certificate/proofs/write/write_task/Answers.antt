use Rattle.std.proofs.Common.{rules, refl, ◌∙◌, arith}
use Rattle.model.proofs.Laws.Reading.{length-bytes_of}
use Rattle.certificate.proofs.Lists.{writes-task}
use Rattle.certificate.proofs.write.write_task.Goals as goal

pub put_header-requires : goal.put_header-requires
put_header-requires c = omega (arith, length-bytes_of 4 c.args.body)

pub returns : goal.returns
returns c =
    let same = c.walk_task-ended.ensures.put.same in
    let same-header = c.put_header.ensures.same in
    writes-task _ c.args.task.now.problem.now.sensible _ _ _ _ _ _ _ _ c.requires (search rules ∙ c.put_header.ensures.is) refl c.walk_task-ended.ensures (search rules)
