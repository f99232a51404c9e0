-- by whether it is a fact's byte, and whether it is large enough for a denial's
use Rattle.std.proofs.Common.{◌≡◌, ℕ, ◌+◌, ◌%◌, ◌≤◌, ◌<◌, ◌&&◌, Bool, true, false, refl, arith, ltb, leb, lt-ltb, le-ltb, ltb-true, ltb-false, leb-true, leb-false}
use Rattle.model.specs.FormulaBytes.{is_literal}
use Rattle.formula.proofs.read.is_literal.Goals as goal

pub returns-then-b-facts : goal.returns-then-b-facts
unfolding is_literal
returns-then-b-facts c = rw (lt-ltb _ _ c.if-b-facts.true)

wrapped : (b facts : ℕ) → b < 256 → facts ≤ b → (t u : Bool) → leb 64 b ≡ t → ltb ((b + 192) % 256) facts ≡ u → u ≡ (t && ltb b (64 + facts))
wrapped b facts w h true true e f = rw (lt-ltb b (64 + facts) (omega (arith, leb-true 64 b e, ltb-true ((b + 192) % 256) facts f)))
wrapped b facts w h true false e f = rw (le-ltb b (64 + facts) (omega (arith, leb-true 64 b e, ltb-false ((b + 192) % 256) facts f)))
wrapped b facts w h false true e f = absurd (omega (arith, leb-false 64 b e, ltb-true ((b + 192) % 256) facts f))
wrapped b facts w h false false e f = refl

pub returns-else-b-facts : goal.returns-else-b-facts
unfolding is_literal
returns-else-b-facts c = rw (le-ltb _ _ c.if-b-facts.false) (wrapped _ _ c.ranges.b.fits c.if-b-facts.false _ _ refl refl)
