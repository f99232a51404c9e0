use Rattle.std.proofs.Common.{ap, ◌-◌, ℕ, arith}
use Rattle.model.specs.declared.Limits.{Limits}
use Rattle.model.specs.Limits.{version2}
use Rattle.numbers.proofs.Writing.{writes-append}
use Rattle.merge.specs.Views.{halls_of}
use Rattle.blocks.proofs.Sizes.{encoded-size}
use Rattle.merge.proofs.Putting.{head-pieces}
use Rattle.merge.proofs.halls.Halls.put_head.Goals as goal

pub overflow_sub-body : goal.overflow_sub-body
overflow_sub-body c = omega (arith, c.len-body.ensures, encoded-size version2 (halls_of c.args.self.now))

pub returns : goal.returns
returns c =
    let v = ap (λ (F : Limits). F.version) c.version2.ensures in
    let n = ap (λ (x : ℕ). x - 5) c.len-body.ensures in
    rw (head-pieces (halls_of c.args.self.now) _ _ _ _ v n c.facts.ensures c.actions.ensures)
    (writes-append c.put.ensures (writes-append c.put_number.ensures c.put_pair.ensures))
