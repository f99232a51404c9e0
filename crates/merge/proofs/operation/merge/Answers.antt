use Rattle.std.proofs.Common.{◌≡◌, refl, rules, sym, ◌∙◌, List, ℕ, arith, length}
use Rattle.std.proofs.lemmas.Result.{err_from_is_err_and}
use Rattle.model.specs.Answer.{refused, answered}
use Rattle.model.specs.declared.fault.Fault.TheVariants.{MergeRoom}
use Rattle.model.specs.Merging.{halls, roomy}
use Rattle.model.proofs.Laws.Tabulate.{length-tabulate}
use Rattle.numbers.proofs.Writing.{writes-first}
use Rattle.blocks.specs.Values.{problem}
use Rattle.blocks.proofs.Promise.{of-slice}
use Rattle.merge.proofs.Sound.{sized-fits}
use Rattle.merge.proofs.Answers.{first-refused, second-refused, over-limit, no-room, wrote}
use Rattle.merge.proofs.operation.merge.Goals as goal
use Rattle.merge.proofs.operation.merge.Goals.{then-out-lengths-via-then-out-lengths, then-out-lengths-via-else-out-lengths+then-table-lengths}

pub returns-in_err-first : goal.returns-in_err-first
returns-in_err-first c =
    let p = err_from_is_err_and c.from_residual.result c.from_residual.ensures.1 in
    let a = first-refused c.args.first.now c.args.second.now c.args.out.now c.args.table.now (of-slice _ c.type_inv.first) (of-slice _ c.type_inv.second) _ c.in_err-first.ensures.read in
    rw (p.1, p.2) (record { merged = a.call; promised = a.promised })

pub returns-in_err-second : goal.returns-in_err-second
returns-in_err-second c =
    let p = err_from_is_err_and c.from_residual-in_err-second.result c.from_residual-in_err-second.ensures.1 in
    let a =
    second-refused c.args.first.now c.args.second.now c.args.out.now c.args.table.now (of-slice _ c.type_inv.first) (of-slice _ c.type_inv.second) _ c.in_ok-first.ensures.read _ c.in_err-second.ensures.read in
    rw (p.1, p.2) (record { merged = a.call; promised = a.promised })

pub returns-in_err-check : goal.returns-in_err-check
returns-in_err-check c =
    let p = err_from_is_err_and c.from_residual-in_err-check.result c.from_residual-in_err-check.ensures.1 in
    let a =
    over-limit c.args.first.now c.args.second.now c.args.out.now c.args.table.now (of-slice _ c.type_inv.first) (of-slice _ c.type_inv.second) _ _ c.in_ok-first.ensures.read c.in_ok-second.ensures.read _
    c.in_err-check.ensures in
    rw (p.1, p.2) (record { merged = a.call; promised = a.promised })

pub returns-then-out-lengths : goal.returns-then-out-lengths
unfolding roomy
returns-then-out-lengths c =
    let short : refused 86 0 ≡ roomy (length c.args.out.now) (length c.args.table.now) (halls (problem c.in_ok-first.first) (problem c.in_ok-second.second)) =
    elim c.then-out-lengths.branch [
      | then-out-lengths-via-then-out-lengths w ↦ grind (arith, c.len.ensures, w.if-out-lengths.true)
      | then-out-lengths-via-else-out-lengths+then-table-lengths w ↦ grind (arith, c.actions.ensures, w.if-table-lengths.true)
    ] in
    let a =
    no-room c.args.first.now c.args.second.now c.args.out.now c.args.table.now (of-slice _ c.type_inv.first) (of-slice _ c.type_inv.second) _ _ c.in_ok-first.ensures.read c.in_ok-second.ensures.read
    c.in_ok-check.ensures (record { fault = MergeRoom; place = 0 }) short in
    rw c.at.ensures (record { merged = a.call; promised = a.promised })

pub put_table-requires-clause-few : goal.put_table-requires-clause-few
put_table-requires-clause-few c =
    let k = sized-fits _ (sym c.in_ok-check.ensures) in
    omega (arith, k.count, c.actions.ensures)

pub put_table-requires-clause-room : goal.put_table-requires-clause-room
put_table-requires-clause-room c = omega (arith, length-tabulate c.actions.result (λ i. i))

pub returns : goal.returns
unfolding roomy
returns c =
    let r = halls (problem c.in_ok-first.first) (problem c.in_ok-second.second) in
    let room : answered r ≡ roomy (length c.args.out.now) (length c.args.table.now) r =
    grind (arith, c.len.ensures, c.if-out-lengths.false, c.actions.ensures, c.if-table-lengths.false) in
    let same = c.put.ensures.same in
    let same-table = c.put_table.ensures.same in
    let a = λ (after after_table : List ℕ) (e : after ≡ c.put.new.writer.out.now) (f : after_table ≡ c.put_table.new.writer.out.now).
    wrote c.args.first.now c.args.second.now c.args.out.now c.args.table.now (of-slice _ c.type_inv.first) (of-slice _ c.type_inv.second) _ _ c.in_ok-first.ensures.read c.in_ok-second.ensures.read
    c.in_ok-check.ensures after (e ∙ writes-first c.put.ensures refl (omega (arith, c.len.ensures, c.if-out-lengths.false))) c.actions.result
    c.actions.ensures after_table
    (f ∙ writes-first c.put_table.ensures refl (omega (arith, length-tabulate c.actions.result (λ i. i)))) room (record { block = c.len.result; table = c.actions.result })
    c.len.ensures refl in
    record { merged = (a _ _ (search rules) (search rules)).call; promised = (a _ _ (search rules) (search rules)).promised }
