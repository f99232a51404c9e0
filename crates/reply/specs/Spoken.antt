-- In which names a problem is spoken of.
use Rattle.std.specs.Prelude.{cond, length, Option, None, Some}
use Rattle.model.specs.declared.Limits.{Limits}
use Rattle.model.specs.ProblemBytes.{Problem}
use Rattle.names.specs.Names.{Names, numbers}
use Rattle.names.specs.Lists.{fit}

-- in those that were given, if they are as many as its facts and actions; in numbers, if none were given
abbrev pub names_for : Option Names → Problem → Option Names
names_for None p = Some numbers
names_for (Some N) p = cond (fit N p.facts (length p.actions)) (Some N) None

-- a problem by the numbers of its version, in its names
pub record Spoken : Type 0 where
  pub names : Names
  pub limits : Limits
  pub problem : Problem
