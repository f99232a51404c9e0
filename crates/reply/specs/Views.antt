-- What the code has of names, of a problem that is spoken of, and of a reply.
use Rattle.std.specs.Prelude.{◌≡◌, Bool, true, false, List, ℕ, Option, None, Some, option_map, Result, Ok, Err}
use Rattle.model.specs.Limits.{limits_of}
use Rattle.model.specs.Answer.{answered}
use Rattle.model.specs.Answers as answers
use Rattle.model.specs.ProblemBytes.{Problem, problem_of}
use Rattle.names.specs.Names.{Names}
use Rattle.names.specs.Lists.{names_in, all_names}
use Rattle.names.specs.Listed.{listed}
use Rattle.names.specs.Views.{names}
use Rattle.blocks.specs.Values.{problem}
use Rattle.reply.specs.Spoken as spec
use Rattle.reply.specs.Spoken.{names_for}
use Rattle.reply.specs.declared.telling.Telling.{Telling}
use Rattle.reply.specs.declared.telling.Spoken.{Spoken}
use Rattle.reply.specs.declared.telling.Unspoken.{Unspoken}
use Rattle.reply.specs.declared.telling.Unspoken.TheVariants.{Refused, OtherNames}
use Rattle.reply.specs.declared.unanswered.Unanswered.{Unanswered}
use Rattle.reply.specs.declared.unanswered.Unanswered.TheVariants as why

-- the names that were given
abbrev pub given : Telling → Option Names
given t = option_map listed t.names

abbrev pub spoken : Spoken → spec.Spoken
spoken s = record { names = names s.names; limits = s.problem.limits; problem = problem s.problem }

-- the names that a text gives, if there is one: each has to be a name, and none given twice. Memory may run out
abbrev pub TellsBy : Option (List ℕ) → Bool → Result Telling Unanswered → Type 0
TellsBy None json (Ok t) = (given t ≡ None) × (t.json ≡ json)
TellsBy (Some text) json (Ok t) = (all_names (names_in text) ≡ true) × (given t ≡ Some (names_in text)) × (t.json ≡ json)
TellsBy text json (Err why.OutOfMemory) = Unit {0}
TellsBy None json (Err e) = ⊥
TellsBy (Some text) json (Err e) = (all_names (names_in text) ≡ false) × (e ≡ why.BadName)

-- the problem in a block: in its names; or that it is refused, or that the names given are not as many as its facts and actions
abbrev pub Speaks : Option Names → List ℕ → Result Spoken Unspoken → Type 0
Speaks L block (Ok s) =
    (answered (problem s.problem) ≡ problem_of (limits_of block) block) × (s.problem.limits ≡ limits_of block) × (names_for L (problem s.problem) ≡ Some (names s.names))
Speaks L block (Err (Refused r)) = answers.refusal r ≡ problem_of (limits_of block) block
Speaks L block (Err OtherNames) = (p : Problem) × (answered p ≡ problem_of (limits_of block) block) × (names_for L p ≡ None)
