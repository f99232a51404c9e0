-- The first false member of an "all". Assumes nothing.
use Rattle.std.proofs.Common.{◌≡◌, sym, ap, ◌∙◌, Bool, true, false, ℕ, suc, ◌+◌, ◌-◌, ◌≤◌, ◌<◌, arith}
use Rattle.model.specs.Formula.{Formula, Formulas, none, more}
use Rattle.model.specs.{FormulaBytes.member_count, Run.first_false}
use Rattle.formula.specs.Decoding.{first, after, head}

first-more : (ms : Formulas) → 0 < member_count ms → ms ≡ more (head ms) (after 1 ms)
first-more ms l = grind arith

module _ (holds : Formula → Bool) where
  -- i of the members ms hold, and n - i of `rest` are left
  pub record Meeting (ms : Formulas) (n i : ℕ) (rest : Formulas) : Type 0 where
    pub few : i ≤ n
    pub enough : n - i ≤ member_count rest
    pub same : first_false holds (first n ms) ≡ i + first_false holds (first (n - i) rest)

  pub meeting-begins : (ms : Formulas) (n : ℕ) → n ≤ member_count ms → Meeting ms n 0 ms
  meeting-begins ms n h = record { few = omega arith; enough = omega arith; same = let z : n - 0 ≡ n = omega arith in rw z (omega arith) }

  module _ (ms : Formulas) (n i : ℕ) (rest : Formulas) (M : Meeting ms n i rest) where
    -- all of them hold
    pub meeting-ends : n ≤ i → first_false holds (first n ms) ≡ n
    unfolding first_false
    meeting-ends h = let z : n - i ≡ 0 = omega arith in M.same ∙ rw z (omega (arith, M.few))

    -- the next one
    module _ (h : i < n) where
      pub some-left : 0 < member_count rest
      some-left = omega (arith, M.enough)

      is-more : rest ≡ more (head rest) (after 1 rest)
      is-more = first-more rest some-left

      next-same : first_false holds (first n ms) ≡ i + first_false holds (more (head rest) (first (n - (i + 1)) (after 1 rest)))
      next-same =
          let z : n - i ≡ suc (n - (i + 1)) = omega arith in
          M.same ∙ rw z (ap (λ (r : Formulas). i + first_false holds (first (suc (n - (i + 1))) r)) is-more)

      pub meeting-false : holds (head rest) ≡ false → i ≡ first_false holds (first n ms)
      unfolding first_false
      meeting-false e = sym (next-same ∙ rw (first_false, e) (omega arith))

      pub meeting-next : holds (head rest) ≡ true → (rest' : Formulas) → rest' ≡ after 1 rest → Meeting ms n (i + 1) rest'
      unfolding first_false
      meeting-next e rest' r =
          record {
            few = omega arith;
            enough = omega (arith, M.enough, ap member_count is-more, ap member_count r);
            same = rw r (next-same ∙ rw (first_false, e) (omega arith));
          }

-- ---- of a formula, which is one alone in ms

pub alone : {f g : Formula} {ms rest : Formulas} → ms ≡ more f none → ms ≡ more g rest → f ≡ g
alone e h = cc
