use Rattle.std.proofs.Common.{◌≡◌, refl, sym, true}
use mathlib.Core.Bool.{false≢true}
use denote.Enum.Bare.{sameb}
use Rattle.model.specs.contracts.marks.Group.{the_type}
use Rattle.model.specs.declared.marks.Group.{Group}
use Rattle.model.specs.declared.marks.Group.TheVariants.{All, Any}
use Rattle.merge.proofs.Members.{all-parts, all-whole}
use Rattle.merge.proofs.both.parts.Goals as goal

-- a group that compares as an "all" is one
same-all : (g : Group) → true ≡ sameb the_type g All → g ≡ All
same-all All e = refl
same-all Any e = absurd (false≢true (sym e))

pub returns-then-eq-clause-is : goal.returns-then-eq-clause-is
returns-then-eq-clause-is c = all-parts c.in-Group.members (same-all _ c.if-eq.ensures) c.alone-alone.ensures c.in-Group.ensures

pub returns-then-eq-clause-whole : goal.returns-then-eq-clause-whole
returns-then-eq-clause-whole c = all-whole c.in-Group.members (same-all _ c.if-eq.ensures) c.alone-alone.ensures c.in-Group.ensures
