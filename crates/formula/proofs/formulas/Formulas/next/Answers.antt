use Rattle.std.proofs.Common.{◌≡◌, ◌∙◌, sym, get_or, eq-eqb, ne_eqb}
use Rattle.formula.proofs.Decoding.{some-byte, leaf, branch}
use Rattle.formula.specs.Decoding.{marked}
use Rattle.model.specs.Marks.{group_of}
use Rattle.formula.proofs.formulas.Formulas.next.Goals as goal
use Rattle.formula.proofs.formulas.Formulas.next.Goals.{After-from-3, then-b-from, else-b-from}

pub bounds-self-0 : goal.bounds-self-0
bounds-self-0 c = some-byte _ c.requires

pub from-requires : goal.from-requires
from-requires c =
    record { inside = some-byte _ c.requires; sound = (leaf _ c.args.self.sound (some-byte _ c.requires) c.if-b-lt-COUNT.true).sound }

pub returns-then-b-lt-COUNT : goal.returns-then-b-lt-COUNT
returns-then-b-lt-COUNT c =
    rw (c.of.ensures, c.from.ensures) (leaf _ c.args.self.sound (some-byte _ c.requires) c.if-b-lt-COUNT.true).is

pub bounds-self-1 : goal.bounds-self-1
bounds-self-1 c = (branch _ c.args.self.sound (some-byte _ c.requires) c.if-b-lt-COUNT.false).long

pub from-requires-3 : goal.from-requires-3
from-requires-3 c =
    let r = branch _ c.args.self.sound (some-byte _ c.requires) c.if-b-lt-COUNT.false in
    record { inside = r.long; sound = r.sound }

-- the group that the mark begins
group-marked : (c : After-from-3) → marked (get_or c.args.self.bytes.now 0 0) ≡ group_of c.if-b-from.group
group-marked c = elim c.if-b-from.branch [
  | then-b-from w ↦ rw w.group-is (rw (eq-eqb _ _ (w.if-b-from.true ∙ c.from-2.ensures)))
  | else-b-from w ↦ rw w.group-is (rw (ne_eqb (get_or c.args.self.bytes.now 0 0) 128 (λ e. w.if-b-from.false (e ∙ sym c.from-2.ensures))))
]

pub invariant_of-result : goal.invariant_of-result
invariant_of-result c =
    let r = branch _ c.args.self.sound (some-byte _ c.requires) c.if-b-lt-COUNT.false in
    record { few = rw c.from-3.ensures r.fits }

pub returns : goal.returns
returns c =
    let r = branch _ c.args.self.sound (some-byte _ c.requires) c.if-b-lt-COUNT.false in
    rw (c.from-3.ensures, ← group-marked (goal.at.returns c).After-from-3) r.is
