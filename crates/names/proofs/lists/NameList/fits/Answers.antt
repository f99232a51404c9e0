use Rattle.std.proofs.Common.{rules}
use Rattle.std.proofs.lemmas.List.{length-map}
use Rattle.names.specs.Listed.{listed}
use Rattle.names.proofs.Fitting.{fit_named}
use Rattle.names.proofs.lists.NameList.fits.Goals as goal

pub returns-then-len-facts-clause-named : goal.returns-then-len-facts-clause-named
returns-then-len-facts-clause-named c = λ counted. fit_named (listed c.args.self.now) c.args.facts c.args.actions (search (rules, counted, length-map))
