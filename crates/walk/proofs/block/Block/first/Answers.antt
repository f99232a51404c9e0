use Rattle.std.proofs.Common.{rules, subst, ℕ}
use Rattle.blocks.specs.Values.{task}
use Rattle.runs.specs.Looks.{LooksAt}
use Rattle.walk.specs.Lanes.{block_of}
use Rattle.walk.proofs.Walking.{first-walk}
use Rattle.walk.proofs.block.Block.first.Goals as goal

-- what was found is of this many levels
pub invariant_of-result-clause-looked : goal.invariant_of-result-clause-looked
invariant_of-result-clause-looked c =
    let T = c.args.task.now in
    let P : ℕ → Type 0 = λ n. LooksAt (task T) (block_of (task T).width T.problem.now.facts 0 0 n) c.args.looks in
    subst P (search rules) c.requires

pub returns-clause-walk : goal.returns-clause-walk
returns-clause-walk c = first-walk c.args.task.now
