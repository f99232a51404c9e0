-- The text of formulas by the first of them. Assumes nothing.
use Rattle.std.proofs.Common.{◌≡◌, refl, ◌++◌, codes, ℕ, zero, suc, ◌-◌, ◌≤◌, ◌<◌, arith}
use Rattle.model.specs.Formula.{Literal, Formulas, lit, none, more}
use Rattle.model.specs.FormulaBytes.{Group, conjunction, disjunction, grouped, member_count}
use Rattle.formula.specs.Decoding.{head, first, after}
use Rattle.formula.proofs.Sizes.{sizes, sizes-split}
use Rattle.names.specs.Names.{Names}
use Rattle.names.specs.Texts.{literal_text, opening_text, formula_text, members_text}

pub sizes-after : (ms : Formulas) → sizes (after 1 ms) ≤ sizes ms
sizes-after ms = omega (arith, sizes-split 1 ms)

module _ (N : Names) where
  pub literal-first : {l : Literal} {ms rest : Formulas} → ms ≡ more (lit l) rest → formula_text N (head ms) ≡ literal_text N l
  unfolding formula_text
  literal-first e = rw e refl

  pub group-first :
      (g : Group) (members : Formulas) {rest ms : Formulas} → ms ≡ more (grouped g members) rest → formula_text N (head ms) ≡ opening_text g ++ members_text N members
  unfolding formula_text
  group-first conjunction members e = rw e refl
  group-first disjunction members e = rw e refl

  -- members by the first of them and the others
  pub member-first :
      (n : ℕ) (ms : Formulas) → 0 < n → n ≤ member_count ms →
      members_text N (first n ms) ≡ codes " " ++ (formula_text N (head ms) ++ members_text N (first (n - 1) (after 1 ms)))
  unfolding formula_text
  member-first zero ms some few = absurd (omega arith)
  member-first (suc n) none some few = absurd (omega arith)
  member-first (suc n) (more m ms) some few = let d : suc n - 1 ≡ n = omega arith in rw d refl

  pub no-member : (n : ℕ) (ms : Formulas) → n ≤ 0 → members_text N (first n ms) ≡ codes " )"
  unfolding formula_text
  no-member zero ms none-left = refl
  no-member (suc n) ms none-left = absurd (omega arith)

pub after-first : (n : ℕ) (ms : Formulas) → 0 < n → after n ms ≡ after (n - 1) (after 1 ms)
after-first zero ms some = absurd (omega arith)
after-first (suc n) none some = let d : suc n - 1 ≡ n = omega arith in rw d (after-none n)
  where
    after-none : (n : ℕ) → none ≡ after n none
    after-none zero = refl
    after-none (suc n) = refl
after-first (suc n) (more m ms) some = let d : suc n - 1 ≡ n = omega arith in rw d refl
