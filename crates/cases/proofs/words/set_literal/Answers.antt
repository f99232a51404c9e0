use Rattle.std.proofs.Common.{◌+◌, ◌%◌, refl, arith}
use Rattle.model.proofs.Laws.Planes.{length-with_literal, table-with}
use Rattle.cases.proofs.words.set_literal.Goals as goal

pub returns : goal.returns
returns c =
    let a = c.args in
    let m = (a.b + 64) % 128 in
    record {
      size = length-with_literal a.words.now a.b m a.value.some a.value.sure (omega arith) c.requires refl;
      is = table-with a.words.now a.b m a.value.some a.value.sure (omega arith) c.requires refl;
    }
