use Rattle.numbers.proofs.Writing.{writes-append}
use Rattle.certificate.proofs.write.put_header.Goals as goal

pub returns : goal.returns
returns c = writes-append c.put.ensures c.put_number.ensures
