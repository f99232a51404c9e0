use Rattle.judge.proofs.Survival.{larger-grant, searched-again, narrowed, narrowed-alike}
use Rattle.judge.proofs.theorem.verdicts_survive.Goals as goal

pub returns-clause-grant : goal.returns-clause-grant
returns-clause-grant c = larger-grant

pub returns-clause-search : goal.returns-clause-search
returns-clause-search c = searched-again

pub returns-clause-start : goal.returns-clause-start
returns-clause-start c = narrowed

pub returns-clause-alike : goal.returns-clause-alike
returns-clause-alike c = narrowed-alike
