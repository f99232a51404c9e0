-- The plans up to a length are few enough to be counted. Assumes nothing.
use Rattle.std.proofs.Common.{◌≡◌, refl, ℕ, zero, suc, ◌+◌, ◌*◌, ◌^◌, ◌≤◌, ◌<◌, arith, mul-le-mul, add-one, pow_pos, pow_mono, pow-add}
use Rattle.model.specs.Search.{plan_count}

count-bound : (m l : ℕ) → m ≤ 64 → plan_count m l ≤ 2 ^ (7 * l)
unfolding plan_count
count-bound m zero h = omega arith
count-bound m (suc l) h =
    let e : 7 * suc l ≡ 7 + 7 * l = omega arith in
    let i : plan_count m (suc l) ≡ m * plan_count m l + 1 = refl in
    rw (e, pow-add 2 7 (7 * l), i) (omega (arith, mul-le-mul h (count-bound m l h), pow_pos (7 * l)))

module _ (m l count : ℕ) (e : count ≡ plan_count m l) where
  pub count_room : (longest : ℕ) → m ≤ 64 → l < longest → longest ≤ 4 → m * count + 1 < 2 ^ 64
  count_room longest h k o =
      let b : 2 ^ (7 * l) ≤ 2 ^ 21 = pow_mono {j = 21} (omega arith) in
      rw e (omega (arith, mul-le-mul h (count-bound m l h)))

  pub count_next : m * count + 1 ≡ plan_count m (l + 1)
  unfolding plan_count
  count_next = rw (e, add-one l) refl
