-- The lanes of a block: the parts of a lane are that lane with its next fact fixed, and the code's words show them. Assumes nothing.
use Rattle.std.proofs.Common.{◌≡◌, refl, ap, ◌∙◌, Bool, true, cond, ◌&&◌, List, [], ◌∷◌, ℕ, zero, suc, ◌+◌, ◌*◌, ◌-◌, ◌^◌, ◌≤◌, ◌<◌, arith, length, get_or, set, length-set, get_or-set_same, get_or-set_other, set-set, eqb, eqb-true, eq-eqb, ne_eqb}
use native.Mathlib.Decide.{ℕ_discrete}
use lib.Seq.{set-get_or, set_comm}
use Rattle.model.specs.Kleene.{Kleene, No, Unknown, Yes, known}
use Rattle.model.specs.Action.{every}
use Rattle.model.proofs.Laws.Conflicts.{every-at}
use Rattle.model.specs.Planes.{lane_bit, some_bit, sure_bit, InLanes}
use Rattle.model.proofs.Laws.Truth.{and-true}
use Rattle.cases.specs.Facts.{with_facts}
use Rattle.cases.specs.Blocks.{path_of, level_value, block_case}
use Rattle.cases.proofs.Facts.{Outside, with_facts-is}

-- ---- tests that are computed at every level and lane

abbrev pub some_words : List ℕ
some_words = 0xffff0000ff00f0cb ∷ 0xff00ff00f0f0ccaf ∷ 0xf0f0f0f0ccccaaff ∷ 0xccccccccaaaaffff ∷ 0xaaaaaaaaffffffff ∷ []

abbrev pub sure_words : List ℕ
sure_words = 0xffff0000ff00f0c8 ∷ 0xff00ff00f0f0cca0 ∷ 0xf0f0f0f0ccccaa00 ∷ 0xccccccccaaaa0000 ∷ 0xaaaaaaaa00000000 ∷ []

abbrev shows : ℕ → ℕ → Bool
shows e j =
    eqb (lane_bit j (get_or some_words e 0)) (some_bit (level_value e j)) && eqb (lane_bit j (get_or sure_words e 0)) (sure_bit (level_value e j))

all-show : every 5 (λ e. every 64 (shows e)) ≡ true
unfolding every lane_bit level_value path_of
all-show = refl

pub level-lanes : (e : ℕ) → e < 5 → InLanes (get_or some_words e 0) (get_or sure_words e 0) (level_value e)
level-lanes e h =
    record {
      lane =
          λ j l.
          let (a, b) = and-true _ _ (every-at 64 _ (every-at 5 _ all-show e h) j l) in
          record { is_some = eqb-true _ _ a; is_sure = eqb-true _ _ b };
    }

-- a value as a number
abbrev code : Kleene → ℕ
code t = some_bit t + sure_bit t

code-inj : (t u : Kleene) → code t ≡ code u → t ≡ u
code-inj No No e = refl
code-inj No Unknown e = absurd (omega arith)
code-inj No Yes e = absurd (omega arith)
code-inj Unknown No e = absurd (omega arith)
code-inj Unknown Unknown e = refl
code-inj Unknown Yes e = absurd (omega arith)
code-inj Yes No e = absurd (omega arith)
code-inj Yes Unknown e = absurd (omega arith)
code-inj Yes Yes e = refl

-- lane 2i + x, for a lane i of level e, has x for the fact of its level, and for every other what lane i has
abbrev part_value : ℕ → ℕ → ℕ → ℕ → Kleene
part_value e i x l = cond (eqb l e) (known (eqb x 1)) (level_value l i)

abbrev parts : ℕ → ℕ → ℕ → ℕ → Bool
parts e y x l = eqb (code (level_value l (2 * (2 ^ e + y) + x))) (code (part_value e (2 ^ e + y) x l))

all-parts : every 5 (λ e. every (2 ^ e) (λ y. every 2 (λ x. every 5 (parts e y x)))) ≡ true
unfolding every level_value path_of
all-parts = refl

-- ---- the case in a lane

module _ (root : List Kleene) (k : ℕ) where
  pub length-block : (d j : ℕ) → length (block_case root k d j) ≡ length root
  unfolding block_case
  length-block zero j = refl
  length-block (suc d) j = length-set (block_case root k d j) (k + d) (level_value d j) ∙ length-block d j

  pub block-outside : (d j g : ℕ) → Outside k (k + d) g → get_or (block_case root k d j) g No ≡ get_or root g No
  unfolding block_case
  block-outside zero j g out = refl
  block-outside (suc d) j g out =
      get_or-set_other (block_case root k d j) (k + d) g (level_value d j) No (λ y. out (omega arith) (omega arith)) ∙
      block-outside d j g (λ a b. out a (omega arith))

  -- lane 1 is the block's own case
  pub block-root : (d : ℕ) → ((f : ℕ) → k ≤ f → f < k + d → get_or root f No ≡ Unknown) → block_case root k d 1 ≡ root
  unfolding block_case level_value path_of
  block-root zero h = refl
  block-root (suc d) h =
      rw (block-root d (λ f a b. h f a (omega arith)), ← h (k + d) (omega arith) (omega arith), set-get_or)

-- the parts of lane i, before the fact of its level is set and from there on
module _ (e i x : ℕ) (small : e < 5) (lo : 2 ^ e ≤ i) (hi : i < 2 ^ suc e) (b : x < 2) where
  level-part : (l : ℕ) → l < 5 → level_value l (2 * i + x) ≡ part_value e i x l
  level-part l h =
      let z : i ≡ 2 ^ e + (i - 2 ^ e) = omega arith in
      let t = every-at 2 _ (every-at (2 ^ e) _ (every-at 5 _ all-parts e small) (i - 2 ^ e) (omega arith)) x b in
      rw z (code-inj _ _ (eqb-true _ _ (every-at 5 _ t l h)))

  module _ (root : List Kleene) (k : ℕ) where
    part-above : (d : ℕ) → d ≤ e → block_case root k d (2 * i + x) ≡ block_case root k d i
    unfolding block_case
    part-above zero h = refl
    part-above (suc d) h = rw (level-part d (omega arith), ne_eqb d e (λ z. omega arith), part-above d (omega arith))

    part : (d : ℕ) → d ≤ 5 → e < d → block_case root k d (2 * i + x) ≡ set (block_case root k d i) (k + e) (known (eqb x 1))
    unfolding block_case
    part zero few h = absurd (omega arith)
    part (suc d) few h =
        elim (ℕ_discrete d e) [
          | yes z ↦ rw (level-part d (omega arith), eq-eqb d e z, part-above d (omega arith), ← z, set-set)
          | no n ↦
              let m : k + e ≡ k + d → ⊥ = λ y. n (omega arith) in
              rw (level-part d (omega arith), ne_eqb d e n, part d (omega arith) (omega arith), set_comm (block_case root k d i) (k + e) (k + d))
        ]

module _ (root : List Kleene) (k d e i : ℕ) (few : d ≤ 5) (inner : e < d) (lo : 2 ^ e ≤ i) (hi : i < 2 ^ suc e) (room : k + d ≤ length root) where
  pub part_no : block_case root k d (2 * i) ≡ set (block_case root k d i) (k + e) No
  part_no =
      let z : 2 * i ≡ 2 * i + 0 = omega arith in
      ap (block_case root k d) z ∙ part e i 0 (omega arith) lo hi (omega arith) root k d few inner

  pub part-yes : block_case root k d (2 * i + 1) ≡ set (block_case root k d i) (k + e) Yes
  part-yes = part e i 1 (omega arith) lo hi (omega arith) root k d few inner

-- ---- from a case to its block

module _ (root : List Kleene) (k : ℕ) where
  block-inside : (d j g : ℕ) → g < length root → k ≤ g → g < k + d → get_or (block_case root k d j) g No ≡ level_value (g - k) j
  unfolding block_case
  block-inside zero j g l a b = absurd (omega arith)
  block-inside (suc d) j g l a b =
      elim (ℕ_discrete g (k + d)) [
        | yes e ↦
            let z : g - k ≡ d = omega arith in
            rw (z, e) (get_or-set_same (block_case root k d j) (k + d) (level_value d j) No (omega (arith, length-block root k d j)))
        | no n ↦
            get_or-set_other (block_case root k d j) (k + d) g (level_value d j) No n ∙
            block-inside d j g l a (omega arith)
      ]

  pub block-levels : (d j : ℕ) → with_facts k (k + d) (λ f. level_value (f - k) j) root ≡ block_case root k d j
  block-levels d j =
      with_facts-is k (k + d) (λ f. level_value (f - k) j) root (block_case root k d j) (length-block root k d j)
      (λ g l a b. block-inside d j g l a b)
      (λ g l out. block-outside root k d j g out)
