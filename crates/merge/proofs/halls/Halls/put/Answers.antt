use Rattle.std.proofs.Common.{refl, ap, ℕ, arith, length, length-append}
use Rattle.blocks.specs.Values.{problem}
use Rattle.numbers.proofs.Writing.{writes-append}
use Rattle.merge.specs.Views.{halls_of}
use Rattle.merge.proofs.Sound.{sized-fits}
use Rattle.merge.proofs.Putting.{problem-pieces, few-members}
use Rattle.merge.proofs.halls.Halls.put.Goals as goal

pub put_head-requires : goal.put_head-requires
put_head-requires c =
    omega (arith, ap length (problem-pieces (problem c.args.self.now.first.now) (problem c.args.self.now.second.now) _ _ refl refl), length-append {A = ℕ})

pub put_both-requires-clause-room : goal.put_both-requires-clause-room
put_both-requires-clause-room c =
    omega (arith, ap length (problem-pieces (problem c.args.self.now.first.now) (problem c.args.self.now.second.now) _ _ c.initial.ensures refl), length-append {A = ℕ})

pub put_both-requires-clause-members : goal.put_both-requires-clause-members
put_both-requires-clause-members c = few-members _ _ c.initial.ensures (sized-fits (halls_of c.args.self.now) c.requires.sized).initial

pub put_both-requires-2-clause-room : goal.put_both-requires-2-clause-room
put_both-requires-2-clause-room c =
    omega (arith, ap length (problem-pieces (problem c.args.self.now.first.now) (problem c.args.self.now.second.now) _ _ c.initial.ensures c.goal.ensures), length-append {A = ℕ})

pub put_both-requires-2-clause-members : goal.put_both-requires-2-clause-members
put_both-requires-2-clause-members c = few-members _ _ c.goal.ensures (sized-fits (halls_of c.args.self.now) c.requires.sized).goal

pub put_actions-requires : goal.put_actions-requires
put_actions-requires c =
    omega (arith, ap length (problem-pieces (problem c.args.self.now.first.now) (problem c.args.self.now.second.now) _ _ c.initial.ensures c.goal.ensures), length-append {A = ℕ})

pub returns : goal.returns
returns c =
    rw (problem-pieces (problem c.args.self.now.first.now) (problem c.args.self.now.second.now) _ _ c.initial.ensures c.goal.ensures)
    (writes-append c.put_head.ensures
    (writes-append c.put_both.ensures (writes-append c.put_both-2.ensures c.put_actions.ensures)))
