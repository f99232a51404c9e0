-- The number of a state, fact by fact.
use Rattle.std.proofs.Common.{◌≡◌, refl, sym, ap, Bool, true, false, List, [], ◌∷◌, map, ℕ, ◌+◌, ◌-◌, ◌*◌, ◌%◌, ◌^◌, ◌≤◌, ◌<◌, arith, length, eqb, eq-eqb, ne_eqb}
use lib.Pow.{pow-lt}
use Rattle.model.specs.Case.{flag}
use Rattle.model.specs.Relevance.{number_of}

module _ (one : ℕ) where
  -- of no fact
  pub number-none : (w : ℕ) (bytes : List ℕ) → length bytes ≡ 0 → 0 ≡ number_of w (map (eqb one) bytes)
  unfolding number_of
  number-none w [] e = refl
  number-none w (b ∷ bytes) e = absurd (omega arith)

  -- of one more, as its byte says
  number-more : (w b : ℕ) (rest : List ℕ) (v : Bool) → eqb one b ≡ v → number_of w (map (eqb one) (b ∷ rest)) ≡ flag v * 2 ^ (w - 1) + number_of (w - 1) (map (eqb one) rest)
  unfolding number_of
  number-more w b rest v e = rw e refl

  -- which is true
  pub number-true :
      (w b below : ℕ) (bytes rest : List ℕ) → bytes ≡ b ∷ rest → b ≡ one → length bytes ≤ w → w ≤ 64 → below ≡ number_of (w - 1) (map (eqb one) rest) →
      1 * 2 ^ (w - 1) % 18446744073709551616 + below ≡ number_of w (map (eqb one) bytes)
  number-true w b below bytes rest e is few word h =
      let some : length rest + 1 ≤ w = omega (arith, few, ap length e) in
      let p : 2 ^ (w - 1) < 2 ^ 64 = pow-lt {i = w - 1} {j = 64} (omega arith) in
      let small : 1 * 2 ^ (w - 1) % 18446744073709551616 ≡ 2 ^ (w - 1) = omega arith in
      let more = number-more w b rest true (eq-eqb one b (sym is)) in
      rw e (omega (arith, small, more, h))

  -- which is false
  pub number-false :
      (w b below : ℕ) (bytes rest : List ℕ) → bytes ≡ b ∷ rest → (b ≡ one → ⊥) → below ≡ number_of (w - 1) (map (eqb one) rest) →
      below ≡ number_of w (map (eqb one) bytes)
  number-false w b below bytes rest e other h =
      let more = number-more w b rest false (ne_eqb one b (λ i. other (sym i))) in
      rw e (omega (arith, more, h))
