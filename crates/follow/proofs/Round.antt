-- The end of a cover as a sum that comes round, and the flag beside it. Assumes nothing.
use Rattle.std.proofs.Common.{◌≡◌, sym, ap, ◌∙◌, Bool, true, false, cond, ℕ, ◌+◌, ◌-◌, ◌*◌, ◌%◌, ◌^◌, ◌≤◌, ◌<◌, lt_of_mul-lt-mul_right, mul-le-mul_right, mod-eq_of_lt, arith, eqb, eq-eqb, ne_eqb, pow_pos}
use native.Mathlib.Nat.{pow-le-pow_right, add-mod-mod, mod_self}
use native.Mathlib.Decide.{dec_lt}
use Rattle.model.proofs.Laws.Cover.{block-of-mod, pow-split, root-span}

-- a case's numbers end within those of the width
pub ends-within : (w k v : ℕ) → k ≤ w → v < 2 ^ w → v % 2 ^ (w - k) ≡ 0 → v + 2 ^ (w - k) ≤ 2 ^ w
ends-within w k v h l e =
    let b = block-of-mod w k v e in
    let whole : 2 ^ w ≡ 2 ^ (k - 0) * 2 ^ (w - k) = sym (root-span w) ∙ pow-split w 0 k (omega arith) h in
    let less : b.q < 2 ^ (k - 0) = lt_of_mul-lt-mul_right (2 ^ (w - k)) {m = b.q} {n = 2 ^ (k - 0)} (omega (arith, b.is, whole)) in
    omega (arith, b.is, whole, mul-le-mul_right (2 ^ (w - k)) less)

-- a sum that comes round at m, where it is 0, and the flag that says so
pub round-sum : (m e s r : ℕ) → r ≡ (e + s % m) % m → 0 < s → e + s ≤ m → cond (eqb r 0) m r ≡ e + s
round-sum m e s r h some most =
    let sum : r ≡ (e + s) % m = h ∙ add-mod-mod e s m in
    elim (dec_lt (e + s) m) [
      | yes l ↦
          let same : r ≡ e + s = sum ∙ mod-eq_of_lt l in
          let off : eqb r 0 ≡ false = ne_eqb r 0 (λ z. omega (arith, same, z)) in
          rw off same
      | no l ↦
          let all : e + s ≡ m = omega arith in
          let zero : r ≡ 0 = sum ∙ ap (λ (x : ℕ). x % m) all ∙ mod_self m in
          let on : eqb r 0 ≡ true = eq-eqb r 0 zero in
          rw on (sym all)
    ]

-- what ends below 2 to the power of 64 is not full
end-is : (full : Bool) (end x : ℕ) → cond full (2 ^ 64) end ≡ x → x < 2 ^ 64 → end ≡ x
end-is true end x e l = absurd (omega (arith, e, l))
end-is false end x e l = e

-- a cover that ends at x, with the line of k facts that begins there
pub with-line :
    (full : Bool) (end x w k span : ℕ) → cond full (2 ^ 64) end ≡ x → w ≤ 64 → k ≤ w → x < 2 ^ w → x % 2 ^ (w - k) ≡ 0 →
    span ≡ 2 ^ (w - k) % 2 ^ 64 → cond (eqb ((end + span) % 2 ^ 64) 0) (2 ^ 64) ((end + span) % 2 ^ 64) ≡ x + 2 ^ (w - k)
with-line full end x w k span is word within below begins span-is =
    let most : 2 ^ w ≤ 2 ^ 64 = pow-le-pow_right {n = 2} (omega arith) {i = w} {j = 64} word in
    let here : end ≡ x = end-is full end x is (omega (arith, below, most)) in
    let fits : x + 2 ^ (w - k) ≤ 2 ^ 64 = omega (arith, ends-within w k x within below begins, most) in
    let sum : (end + span) % 2 ^ 64 ≡ (x + 2 ^ (w - k) % 2 ^ 64) % 2 ^ 64 = λ j. (here j + span-is j) % 2 ^ 64 in
    round-sum (2 ^ 64) x (2 ^ (w - k)) ((end + span) % 2 ^ 64) sum (pow_pos (w - k)) fits
