use Rattle.formula.proofs.Leaves.{literal-byte}
use Rattle.cases.proofs.Lanes.{sized-in, lanes-of, put-hold, put-cases}
use Rattle.cases.proofs.cases.Cases.put_declared.Goals as goal

pub set_literal-requires : goal.set_literal-requires
set_literal-requires c = rw c.byte.ensures (literal-byte _ c.args.self.now.few c.args.literal.byte c.requires)

pub invariant_of-self : goal.invariant_of-self
invariant_of-self c =
    let s = c.args.self.now in
    record {
      few = s.few;
      hold = put-hold s.facts s.few _ (sized-in s.facts s.words) _ s.words _ c.args.literal.byte c.requires c.args.value.some c.args.value.sure s.hold (lanes-of _ _ c.args.value.consistent) (rw c.byte.ensures at c.set_literal.ensures);
    }

pub returns-clause-cases : goal.returns-clause-cases
returns-clause-cases c =
    let s = c.args.self.now in
    put-cases s.facts s.few _ (sized-in s.facts s.words) _ s.words _ c.args.literal.byte c.requires c.args.value.some c.args.value.sure s.hold (lanes-of _ _ c.args.value.consistent) (rw c.byte.ensures at c.set_literal.ensures)
