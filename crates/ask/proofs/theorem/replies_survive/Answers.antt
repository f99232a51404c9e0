use Rattle.ask.proofs.AskedAgain.{asked-again}
use Rattle.ask.proofs.theorem.replies_survive.Goals as goal

pub returns : goal.returns
returns c = λ json given b g g' l. asked-again json b g g' l given
