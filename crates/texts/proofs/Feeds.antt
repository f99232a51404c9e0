-- The line feeds of a text, byte by byte.
use Rattle.std.proofs.Common.{◌≡◌, refl, Bool, true, false, List, [], ◌∷◌, ℕ, ◌+◌, arith, length, eqb, eq-eqb, ne_eqb}
use Rattle.model.specs.Case.{flag}
use Rattle.texts.specs.Texts.{line_feeds}

-- of nothing
pub feeds-none : (t : List ℕ) → length t ≡ 0 → line_feeds t ≡ 0
unfolding line_feeds
feeds-none [] e = refl
feeds-none (b ∷ t) e = absurd (omega arith)

feeds-more : (b : ℕ) (t : List ℕ) (v : Bool) → eqb b 10 ≡ v → line_feeds (b ∷ t) ≡ flag v + line_feeds t
unfolding line_feeds
feeds-more b t true e = rw e (omega arith)
feeds-more b t false e = rw e (omega arith)

-- past one more
pub feed-passed : (feeds all b : ℕ) (rest after : List ℕ) → rest ≡ b ∷ after → b ≡ 10 → feeds + line_feeds rest ≡ all → feeds + 1 + line_feeds after ≡ all
feed-passed feeds all b rest after e is h =
    let more = feeds-more b after true (eq-eqb b 10 is) in
    let sum : feeds + line_feeds (b ∷ after) ≡ all = rw (← e) h in
    omega (arith, more, sum)

-- past a byte that is none
pub byte-passed : (feeds all b : ℕ) (rest after : List ℕ) → rest ≡ b ∷ after → (b ≡ 10 → ⊥) → feeds + line_feeds rest ≡ all → feeds + line_feeds after ≡ all
byte-passed feeds all b rest after e other h =
    let more = feeds-more b after false (ne_eqb b 10 other) in
    let sum : feeds + line_feeds (b ∷ after) ≡ all = rw (← e) h in
    omega (arith, more, sum)
