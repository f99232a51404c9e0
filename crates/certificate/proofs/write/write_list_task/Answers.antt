use Rattle.std.proofs.Common.{arith, refl}
use Rattle.certificate.proofs.Lists.{list-undecided, list-wrong, list_over, list-short, list_written}
use Rattle.certificate.proofs.write.write_list_task.Goals as goal

pub returns-in-Err-OutOfVisits : goal.returns-in-Err-OutOfVisits
returns-in-Err-OutOfVisits c =
    let e = list-undecided c.args.task.now _ c.args.out.now _ _ _ (rw c.in-Err-OutOfVisits.field-0-is at c.in-Err-OutOfVisits.ensures) in
    rw c.at.ensures (record { answer = e.0; buffer = e.1 })

pub returns-in-Err-Failed : goal.returns-in-Err-Failed
returns-in-Err-Failed c =
    let e = list-wrong c.args.task.now _ c.args.out.now _ _ _ _ _ (rw c.in-Err-Failed.field-0-is at c.in-Err-Failed.ensures) in
    rw c.at-in-Err-Failed.ensures (record { answer = e.0; buffer = e.1 })

pub returns-then-lines-limits : goal.returns-then-lines-limits
returns-then-lines-limits c =
    let e = list_over c.args.task.now _ c.args.out.now _ _ _ _ c.in-Ok.ensures (omega arith) in
    rw c.at-then-lines-limits.ensures (record { answer = e.0; buffer = e.1 })

pub returns-then-short : goal.returns-then-short
returns-then-short c =
    let e = list-short c.args.task.now _ c.args.out.now _ _ _ _ c.in-Ok.ensures (omega arith) (omega arith) in
    rw c.at-then-short.ensures (record { answer = e.0; buffer = e.1 })

pub returns-else-short : goal.returns-else-short
returns-else-short c =
    let e = list_written c.args.task.now _ c.args.out.now _ _ _ _ c.in-Ok.ensures (omega arith) _ _ refl (omega arith) c.write_task.ensures in
    record { answer = e.0; buffer = e.1 }
