-- Lines that are kept in a buffer.
use Rattle.std.specs.Prelude.{◌≡◌, List, [], ◌++◌, length, refl}
use Rattle.std.proofs.Common.{◌∙◌, arith}
use native.Mathlib.Nat.{mul-zero}
use Rattle.model.specs.declared.Limits.{Limits}
use Rattle.model.specs.Walk.{Line}
use Rattle.model.specs.WellFormed.{Sensible}
use Rattle.model.specs.ListBytes.{lines_bytes}
use Rattle.lines.specs.Putting.{LinesLaid}
use Rattle.lines.proofs.Stores.{puts-append}
use Rattle.walk.specs.declared.page.Page.{Page}

-- the same buffer has these lines more, if they fit
pub record PutsLines (F : Limits) (p : Page) (ls : List Line) (q : Page) : Type 0 where
  pub same : q.out.ghost_name ≡ p.out.ghost_name
  pub size : length q.out.now ≡ length p.out.now
  pub laid : LinesLaid F p.out.now p.at ls q.at q.out.now

pub puts_none : (F : Limits) (p : Page) → PutsLines F p [] p
unfolding lines_bytes
puts_none F p = record { same = refl; size = refl; laid = λ r. record { end = omega (arith, mul-zero F.line); bytes = refl } }

pub puts_more : (F : Limits) → Sensible F → (p q r : Page) (ls ms : List Line) → PutsLines F p ls q → PutsLines F q ms r → PutsLines F p (ls ++ ms) r
puts_more F S p q r ls ms x y =
    record {
      same = y.same ∙ x.same;
      size = y.size ∙ x.size;
      laid = puts-append F S.line p.out.now q.out.now r.out.now p.at q.at r.at ls ms x.size x.laid y.laid;
    }
