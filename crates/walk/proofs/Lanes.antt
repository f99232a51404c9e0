-- The lanes of a block by their numbers: which level a lane is of, which one comes after it, and which case each has. Assumes nothing.
use Rattle.std.proofs.Common.{◌≡◌, sym, ap, ◌∙◌, subst, List, ℕ, zero, suc, ◌+◌, ◌*◌, ◌-◌, ◌/◌, ◌%◌, ◌^◌, ◌≤◌, ◌<◌, arith, pow-suc, mul-le-mul_right, mod-eq_of_lt, length, get_or, set, pow-add, pow_pos, pow_mono, shr-shr}
use native.Mathlib.Decide.{dec_le, ℕ_discrete}
use lib.Count.{count_trailing_zeros, under}
use Rattle.model.specs.Kleene.{Kleene, No, Unknown, Yes}
use Rattle.model.specs.Case.{case_of}
use Rattle.model.proofs.Laws.Cover.{Block, pow-split, pow-half, rescale, next-block}
use Rattle.model.proofs.Laws.Splitting.{length-case, case-unknown, case-no, case-yes}
use Rattle.cases.specs.Blocks.{block_case}
use Rattle.cases.proofs.Blocks.{block-root, part_no as lane-no, part-yes as lane-yes}
use Rattle.walk.specs.Lanes.{OnLevel, IsAfter}

-- ---- levels

pub level_le : (lane e l : ℕ) → 2 ^ e ≤ lane → lane < 2 ^ suc l → e ≤ l
level_le lane e l h k =
    elim (dec_le e l) [
      | yes y ↦ y
      | no n ↦ let m : suc l ≤ e = omega arith in absurd (omega (arith, pow_mono {i = suc l} {j = e} m))
    ]

-- a lane is of one level
pub one-level : (lane e l : ℕ) → OnLevel lane e → OnLevel lane l → e ≡ l
one-level lane e l a b = let x = level_le lane e l a.from b.to in let y = level_le lane l e b.from a.to in omega arith

pub level-within : (lane e levels : ℕ) → OnLevel lane e → lane < 2 * 2 ^ levels → e ≤ levels
level-within lane e levels o h = level_le lane e levels o.from (omega (arith, pow-suc 2 levels))

-- each lane is of one
pub some-level : (lane levels : ℕ) → 0 < lane → lane < 2 * 2 ^ levels → (e : ℕ) × OnLevel lane e
some-level lane zero h l = (0, record { from = omega arith; to = omega arith })
some-level lane (suc levels) h l =
    elim (dec_le (2 ^ suc levels) lane) [
      | yes y ↦ (suc levels, record { from = y; to = omega (arith, pow-suc 2 (suc levels)) })
      | no d ↦ some-level lane levels h (omega (arith, pow-suc 2 levels))
    ]

pub first-level : OnLevel 1 0
first-level = record { from = omega arith; to = omega arith }

pub no-level : (lane e : ℕ) → OnLevel lane e → OnLevel (2 * lane) (suc e)
no-level lane e o = record { from = omega (arith, o.from, pow-suc 2 e); to = omega (arith, o.to, pow-suc 2 (suc e)) }

pub half-level : (lane m e : ℕ) → OnLevel lane (suc e) → 2 * m ≤ lane → lane ≤ 2 * m + 1 → OnLevel m e
half-level lane m e o h k = record { from = omega (arith, o.from, pow-suc 2 e); to = omega (arith, o.to, pow-suc 2 (suc e)) }

pub lane-some : (lane e : ℕ) → OnLevel lane e → 0 < lane
lane-some lane e o = omega (arith, o.from, pow_pos e)

pub lane-inside : (lane e levels : ℕ) → OnLevel lane e → e ≤ levels → lane < 2 * 2 ^ levels
lane-inside lane e levels o h = omega (arith, o.to, pow-suc 2 e, pow_mono {i = e} {j = levels} h)

pub lane-small : (lane levels : ℕ) → levels ≤ 5 → lane < 2 * 2 ^ levels → lane < 64
lane-small lane levels h k = omega (arith, pow_mono {i = levels} {j = 5} h)

-- ---- the lane after a lane

pub record IsOddPart (n t : ℕ) : Type 0 where
  pub is : n ≡ n / 2 ^ t * 2 ^ t
  pub odd : n / 2 ^ t % 2 ≡ 1

even-part : (n t : ℕ) → n % 2 ≡ 0 → IsOddPart (n / 2) t → IsOddPart n (suc t)
even-part n t z r =
    let s : n / 2 ^ suc t ≡ n / 2 / 2 ^ t = sym (shr-shr n 1 t ∙ ap (λ (x : ℕ). n / 2 ^ x) (omega arith)) in
    record { is = rw s (omega (arith, r.is, pow-suc 2 t, twice (n / 2 / 2 ^ t) (2 ^ t) (2 ^ suc t) (pow-suc 2 t))); odd = rw s r.odd }
  where
    twice : (a b c : ℕ) → c ≡ b * 2 → a * c ≡ 2 * (a * b)
    twice a b c e = rw e (omega arith)

own-part : (n : ℕ) → n % 2 ≡ 1 → IsOddPart n 0
own-part n o = let z : n / 2 ^ 0 ≡ n = omega arith in record { is = rw z (omega arith); odd = rw z o }

odd-part : (k n : ℕ) → 0 < n → n < 2 ^ k → IsOddPart n (count_trailing_zeros k n)
unfolding count_trailing_zeros
odd-part zero n p h = absurd (omega arith)
odd-part (suc k) n p h =
    let t = count_trailing_zeros k (n / 2) in
    elim (ℕ_discrete (n % 2) 0) [
      | yes z ↦
          let r = odd-part k (n / 2) (omega arith) (omega (arith, pow-suc 2 k)) in
          subst (λ (x : ℕ). IsOddPart n (under x t)) (sym z) (even-part n t z r)
      | no d ↦
          let o : n % 2 ≡ 1 = omega arith in
          subst (λ (x : ℕ). IsOddPart n (under x t)) (sym o) (own-part n o)
    ]

pub after-lane : (lane : ℕ) → lane < 64 → IsAfter lane ((lane + 1) / 2 ^ count_trailing_zeros 64 (lane + 1))
after-lane lane h =
    let r = odd-part 64 (lane + 1) (omega arith) (omega arith) in
    record { up = count_trailing_zeros 64 (lane + 1); is = r.is; odd = r.odd }

-- ---- the numbers of a level

double : (d q : ℕ) → 2 * d * q ≡ d * (q + q)
double d q = omega arith

double-more : (d q : ℕ) → (2 * d + 1) * q ≡ d * (q + q) + q
double-more d q = omega arith

module _ (w k v : ℕ) where
  abbrev pub number_at : ℕ → ℕ → ℕ
  number_at e lane = v + (lane - 2 ^ e) * 2 ^ (w - (k + e))

  module _ (e lane : ℕ) (l : k + e < w) where
    halves : 2 ^ (w - (k + e)) ≡ 2 ^ (w - (k + suc e)) + 2 ^ (w - (k + suc e))
    halves = let s : suc (k + e) ≡ k + suc e = omega arith in rw (← s) (pow-half w (k + e) l)

    pub number-no : number_at (suc e) (2 * lane) ≡ number_at e lane
    number-no =
        let d : 2 * lane - 2 ^ suc e ≡ 2 * (lane - 2 ^ e) = omega (arith, pow-suc 2 e) in
        ap (λ (x : ℕ). v + x)
        (ap (λ (x : ℕ). x * 2 ^ (w - (k + suc e))) d ∙ double (lane - 2 ^ e) (2 ^ (w - (k + suc e))) ∙ ap (λ (x : ℕ). (lane - 2 ^ e) * x) (sym halves))

    pub number-yes : 2 ^ e ≤ lane → number_at (suc e) (2 * lane + 1) ≡ number_at e lane + 2 ^ (w - suc (k + e))
    number-yes h =
        let d : 2 * lane + 1 - 2 ^ suc e ≡ 2 * (lane - 2 ^ e) + 1 = omega (arith, pow-suc 2 e) in
        let s : k + suc e ≡ suc (k + e) = omega arith in
        ap (λ (x : ℕ). v + x)
        (ap (λ (x : ℕ). x * 2 ^ (w - (k + suc e))) d ∙ double-more (lane - 2 ^ e) (2 ^ (w - (k + suc e)))) ∙
        omega (arith, ap (λ (x : ℕ). (lane - 2 ^ e) * x) halves, ap (λ (x : ℕ). 2 ^ (w - x)) s)

-- ---- the case of a lane

module _ (w n k levels v : ℕ) (n≤w : n ≤ w) (few : levels ≤ 5) (inside : k + levels ≤ n) (B : Block w k v) where
  abbrev root : List Kleene
  root = case_of w n k v

  pub record HasCase (e lane : ℕ) : Type 0 where
    pub block : Block w (k + e) (number_at w k v e lane)
    pub is : block_case root k levels lane ≡ case_of w n (k + e) (number_at w k v e lane)

  unfixed : (f : ℕ) → k ≤ f → f < k + levels → get_or root f No ≡ Unknown
  unfixed f h l = case-unknown w n k v f h (omega arith)

  root-case : (lane : ℕ) → lane ≡ 1 → HasCase 0 lane
  root-case lane e =
      let z : k + 0 ≡ k = omega arith in
      let x : v + (lane - 2 ^ 0) * 2 ^ (w - (k + 0)) ≡ v = rw e (omega arith) in
      record {
        block = subst (λ (y : ℕ). Block w y (number_at w k v 0 lane)) (sym z) (subst (λ (y : ℕ). Block w k y) (sym x) B);
        is =
            ap (block_case root k levels) e ∙
            block-root root k levels unfixed ∙
            ap (λ (y : ℕ). case_of w n y v) (sym z) ∙
            ap (λ (y : ℕ). case_of w n (k + 0) y) (sym x);
      }

  module _ (e m : ℕ) (inner : e < levels) (o : OnLevel m e) (H : HasCase e m) where
    k<n : k + e < n
    k<n = omega arith

    room : k + levels ≤ length root
    room = omega (arith, length-case w n k v)

    smaller : Block w (suc (k + e)) (number_at w k v e m)
    smaller = rescale w (k + e) (suc (k + e)) _ (omega arith) (omega (arith, k<n)) H.block

    part-case :
        (lane : ℕ) (u : ℕ) (x : Kleene) → u ≡ number_at w k v (suc e) lane → Block w (suc (k + e)) u →
        block_case root k levels lane ≡ set (block_case root k levels m) (k + e) x →
        case_of w n (suc (k + e)) u ≡ set (case_of w n (k + e) (number_at w k v e m)) (k + e) x → HasCase (suc e) lane
    part-case lane u x i c p q =
        let s : suc (k + e) ≡ k + suc e = omega arith in
        let r : block_case root k levels lane ≡ case_of w n (suc (k + e)) u = p ∙ ap (λ (y : List Kleene). set y (k + e) x) H.is ∙ sym q in
        record {
          block = subst (λ (y : ℕ). Block w y (number_at w k v (suc e) lane)) s (subst (λ (y : ℕ). Block w (suc (k + e)) y) i c);
          is = r ∙ ap (λ (y : ℕ). case_of w n (suc (k + e)) y) i ∙ ap (λ (y : ℕ). case_of w n y (number_at w k v (suc e) lane)) s;
        }

    no-case : HasCase (suc e) (2 * m)
    no-case =
        part-case (2 * m) _ No (sym (number-no w k v e m (omega (arith, k<n)))) smaller
        (lane-no root k levels e m few inner o.from o.to room) (case-no w n (k + e) _ k<n n≤w H.block)

    yes-case : HasCase (suc e) (2 * m + 1)
    yes-case =
        part-case (2 * m + 1) _ Yes (sym (number-yes w k v e m (omega (arith, k<n)) o.from)) (next-block w (suc (k + e)) _ smaller)
        (lane-yes root k levels e m few inner o.from o.to room) (case-yes w n (k + e) _ k<n n≤w H.block)

  pub lane-case : (e lane : ℕ) → e ≤ levels → OnLevel lane e → HasCase e lane
  lane-case zero lane h o = root-case lane (omega (arith, o.from, o.to))
  lane-case (suc e) lane h o =
      let m = lane / 2 in
      let p : OnLevel m e = half-level lane m e o (omega arith) (omega arith) in
      let H = lane-case e m (omega arith) p in
      elim (ℕ_discrete (lane % 2) 0) [
        | yes z ↦ let i : 2 * m ≡ lane = omega arith in subst (HasCase (suc e)) i (no-case e m (omega arith) p H)
        | no d ↦ let i : 2 * m + 1 ≡ lane = omega arith in subst (HasCase (suc e)) i (yes-case e m (omega arith) p H)
      ]

-- ---- the number of a lane's case by the lanes of the last level: the first of them below it has it

module _ (e lane levels : ℕ) (h : e ≤ levels) (o : OnLevel lane e) where
  abbrev spread : ℕ
  spread = 2 ^ (levels - e)

  whole-level : 2 ^ levels ≡ 2 ^ e * spread
  whole-level = ap (λ (x : ℕ). 2 ^ x) (omega arith) ∙ pow-add 2 e (levels - e)

  lane-is : lane * spread ≡ 2 ^ levels + (lane - 2 ^ e) * spread
  lane-is = let d : lane ≡ 2 ^ e + (lane - 2 ^ e) = omega (arith, o.from) in split (lane - 2 ^ e) lane d
    where
      split : (d l : ℕ) → l ≡ 2 ^ e + d → l * spread ≡ 2 ^ levels + d * spread
      split d l i = rw i (omega (arith, whole-level))

  pub below_ge : 2 ^ levels ≤ lane * spread
  below_ge = omega (arith, lane-is)

  pub below_lt : lane * spread < 2 * 2 ^ levels
  below_lt =
      let m : (lane + 1) * spread ≤ 2 ^ suc e * spread = mul-le-mul_right spread (omega (arith, o.to)) in
      omega (arith, whole-level, pow-suc 2 e, pow_pos (levels - e), over (2 ^ e) (2 ^ suc e) (pow-suc 2 e), m)
    where
      over : (a b : ℕ) → b ≡ a * 2 → b * spread ≡ 2 * (a * spread)
      over a b i = rw i (omega arith)

  pub below-is : lane * spread - 2 ^ levels ≡ (lane - 2 ^ e) * spread
  below-is = omega (arith, lane-is)

  pub below-number : (w k : ℕ) → k + levels ≤ w → (lane * spread - 2 ^ levels) * 2 ^ (w - (k + levels)) ≡ (lane - 2 ^ e) * 2 ^ (w - (k + e))
  below-number w k l =
      let p : 2 ^ (w - (k + e)) ≡ spread * 2 ^ (w - (k + levels)) =
      pow-split w (k + e) (k + levels) (omega arith) l ∙ ap (λ (x : ℕ). 2 ^ x * 2 ^ (w - (k + levels))) (omega arith)
      in
      ap (λ (x : ℕ). x * 2 ^ (w - (k + levels))) below-is ∙ turned (lane - 2 ^ e) (2 ^ (w - (k + levels))) ∙ ap (λ (x : ℕ). (lane - 2 ^ e) * x) (sym p)
    where
      turned : (d q : ℕ) → d * spread * q ≡ d * (spread * q)
      turned d q = omega arith

  -- what the code computes fits
  module _ (few : levels ≤ 5) where
    pub below-fits : lane * spread % 2 ^ 64 ≡ lane * spread
    below-fits = mod-eq_of_lt (omega (arith, below_lt, pow_mono {i = levels} {j = 5} few))

    pub edge-fits : 1 * 2 ^ levels % 2 ^ 64 ≡ 2 ^ levels
    edge-fits = let z : 1 * 2 ^ levels ≡ 2 ^ levels = omega arith in rw z (mod-eq_of_lt (omega (arith, pow_mono {i = levels} {j = 5} few)))

-- no number of a case leaves its block
pub number-room : (w k v e lane end : ℕ) → k + e ≤ w → OnLevel lane e → v + 2 ^ (w - k) ≤ end → number_at w k v e lane + 2 ^ (w - (k + e)) ≤ end
number-room w k v e lane end l o h =
    let p : 2 ^ (w - k) ≡ 2 ^ e * 2 ^ (w - (k + e)) =
    pow-split w k (k + e) (omega arith) l ∙ ap (λ (x : ℕ). 2 ^ x * 2 ^ (w - (k + e))) (omega arith)
    in
    let m : (lane - 2 ^ e + 1) * 2 ^ (w - (k + e)) ≤ 2 ^ e * 2 ^ (w - (k + e)) =
    mul-le-mul_right (2 ^ (w - (k + e))) (omega (arith, o.from, o.to, pow-suc 2 e))
    in
    grow (lane - 2 ^ e) (2 ^ (w - (k + e))) (omega (arith, p, m))
  where
    grow : (d q : ℕ) → v + (d + 1) * q ≤ end → v + d * q + q ≤ end
    grow d q i = omega arith
