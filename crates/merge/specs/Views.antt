-- What the values of this crate show.
use Rattle.std.specs.Prelude.{◌≡◌, Result}
use Rattle.model.specs.Formula as model
use Rattle.model.specs.ProblemBytes as problems
use Rattle.model.specs.Merging.{moved_members, joined, halls, sized}
use Rattle.model.specs.Answers.{result_answer}
use Rattle.model.specs.declared.Refusal.{Refusal}
use Rattle.formula.specs.Views.{formulas}
use Rattle.blocks.specs.Values.{problem}
use Rattle.merge.specs.declared.both.Both.{Both}
use Rattle.merge.specs.declared.halls.Halls.{Halls}

-- the "all" of both
abbrev pub both_of : Both → model.Formula
both_of b = model.all (joined (formulas b.first.formulas) (moved_members b.shift (formulas b.second.formulas)))

-- the problem that two halls are
abbrev pub halls_of : Halls → problems.Problem
halls_of h = halls (problem h.first.now) (problem h.second.now)

-- the limits hold of the problem r, or which does not
abbrev pub ChecksSize : problems.Problem → Result (Unit {0}) Refusal → Type 0
ChecksSize r result = result_answer (λ u. r) result ≡ sized r
